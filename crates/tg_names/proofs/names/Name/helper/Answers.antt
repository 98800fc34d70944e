use Rattle.std.proofs.Common.{◌∙◌, sym, subst, arith}
use Rattle.std.proofs.lemmas.Fmt.{length-decimal-le}
use Rattle.tg_names.specs.Names.{IsName}
use Rattle.tg_names.proofs.Digits.{name-decimal, text-decimal}
use Rattle.tg_names.proofs.names.Name.helper.Goals as goal

pub overflow_sub-text : goal.overflow_sub-text
overflow_sub-text c = omega (arith, length-decimal-le 10 c.args.number (omega arith) (omega arith) (omega arith), c.write_decimal-start.ensures.start)

pub overflow_sub-bytes : goal.overflow_sub-bytes
overflow_sub-bytes c = omega (arith, length-decimal-le 10 c.args.number (omega arith) (omega arith) (omega arith), c.write_decimal-start.ensures.start)

pub from_text-requires : goal.from_text-requires
from_text-requires c =
    let d = c.write_decimal-start in
    subst IsName (sym (text-decimal c.args.number d.result d.new.text (omega arith) (omega arith) d.ensures.start d.ensures.written)) (name-decimal c.args.number (omega arith))

pub returns : goal.returns
returns c =
    let d = c.write_decimal-start in
    c.from_text.ensures ∙ text-decimal c.args.number d.result d.new.text (omega arith) (omega arith) d.ensures.start d.ensures.written
