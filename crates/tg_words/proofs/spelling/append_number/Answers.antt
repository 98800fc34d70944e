use Rattle.std.proofs.Common.{arith}
use Rattle.std.proofs.lemmas.Fmt.{length-decimal-le}
use Rattle.tg_words.proofs.spelling.append_number.Goals as goal

pub put_number-requires : goal.put_number-requires
put_number-requires c = omega (arith, length-decimal-le 20 c.args.number (omega arith) (omega arith) (omega arith), c.in_ok-reserve.ensures.ok)

pub returns-clause-len : goal.returns-clause-len
returns-clause-len c = omega (arith, length-decimal-le 20 c.args.number (omega arith) (omega arith) (omega arith), c.put_number.ensures.len, c.in_ok-reserve.ensures.len)
