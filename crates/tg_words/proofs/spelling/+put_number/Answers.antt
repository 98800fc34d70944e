use Rattle.std.proofs.Common.{◌++◌, ◌/◌, ◌%◌, ap, sym, ◌∙◌, arith, append_assoc}
use Rattle.std.specs.Fmt.{decimal}
use Rattle.tg_words.proofs.Digits.{two_digits, last_four-are, length-last_four}
use Rattle.tg_words.proofs.spelling.+put_number.Goals as goal

pub put_number-requires : goal.put_number-requires
put_number-requires t c = (omega arith, omega (arith, length-last_four c.args.number (omega arith) (omega arith)))

pub put_two_digits-requires-clause-room : goal.put_two_digits-requires-clause-room
put_two_digits-requires-clause-room t c = omega (arith, length-last_four c.args.number (omega arith) (omega arith))

pub put_two_digits-requires-2-clause-room : goal.put_two_digits-requires-2-clause-room
put_two_digits-requires-2-clause-room t c = omega (arith, length-last_four c.args.number (omega arith) (omega arith))

pub returns-clause-items : goal.returns-clause-items
returns-clause-items t c =
    let n = c.args.number in
    let before = c.args.text.now.items in
    let tens = two_digits (n / 100 % 100) in
    let ones = two_digits (n % 100) in
    c.put_two_digits-2.ensures.items
    ∙ ap (λ bs. bs ++ ones) (c.put_two_digits.ensures.items ∙ ap (λ bs. bs ++ tens) c.put_number.ensures.items)
    ∙ append_assoc (before ++ decimal (n / 10000)) tens ones
    ∙ append_assoc before (decimal (n / 10000)) (tens ++ ones)
    ∙ ap (λ bs. before ++ bs) (sym (last_four-are n (omega arith) (omega arith)))

pub returns-clause-len : goal.returns-clause-len
returns-clause-len t c = omega (arith, length-last_four c.args.number (omega arith) (omega arith), c.put_number.ensures.len, c.put_two_digits.ensures.len, c.put_two_digits-2.ensures.len)
