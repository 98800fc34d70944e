use Rattle.std.proofs.Common.{◌++◌, ap, sym, ◌∙◌, length, arith}
use Rattle.tg_words.proofs.Digits.{digit-is, two-are}
use Rattle.tg_words.proofs.spelling.put_one_or_two_digits.Goals as goal

pub push_reserved-requires : goal.push_reserved-requires
push_reserved-requires c = omega (arith, ap length (digit-is c.args.number (omega arith)))

pub returns-then-number-lt10-clause-items : goal.returns-then-number-lt10-clause-items
returns-then-number-lt10-clause-items c = c.push_reserved.ensures.items ∙ ap (λ bs. c.args.text.now.items ++ bs) (sym (digit-is c.args.number (omega arith)))

pub returns-then-number-lt10-clause-len : goal.returns-then-number-lt10-clause-len
returns-then-number-lt10-clause-len c = omega (arith, ap length (digit-is c.args.number (omega arith)), c.push_reserved.ensures.len)

pub put_two_digits-requires-clause-room : goal.put_two_digits-requires-clause-room
put_two_digits-requires-clause-room c = omega (arith, ap length (two-are c.args.number (omega arith) (omega arith)))

pub returns-clause-items : goal.returns-clause-items
returns-clause-items c = c.put_two_digits.ensures.items ∙ ap (λ bs. c.args.text.now.items ++ bs) (sym (two-are c.args.number (omega arith) (omega arith)))

pub returns-clause-len : goal.returns-clause-len
returns-clause-len c = omega (arith, ap length (two-are c.args.number (omega arith) (omega arith)), c.put_two_digits.ensures.len)
