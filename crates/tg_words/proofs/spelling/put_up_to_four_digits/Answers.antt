use Rattle.std.proofs.Common.{◌++◌, ◌/◌, ◌%◌, ap, sym, ◌∙◌, arith, append_assoc}
use Rattle.std.specs.Fmt.{decimal}
use Rattle.tg_words.proofs.Digits.{two_digits, last_two-are, length-last_two}
use Rattle.tg_words.proofs.spelling.put_up_to_four_digits.Goals as goal

pub put_one_or_two_digits-requires-2-clause-room : goal.put_one_or_two_digits-requires-2-clause-room
put_one_or_two_digits-requires-2-clause-room c = omega (arith, length-last_two c.args.number (omega arith) (omega arith))

pub put_two_digits-requires-clause-room : goal.put_two_digits-requires-clause-room
put_two_digits-requires-clause-room c = omega (arith, length-last_two c.args.number (omega arith) (omega arith))

pub returns-clause-items : goal.returns-clause-items
returns-clause-items c =
    let n = c.args.number in
    c.put_two_digits.ensures.items
    ∙ ap (λ bs. bs ++ two_digits (n % 100)) c.put_one_or_two_digits-2.ensures.items
    ∙ append_assoc c.args.text.now.items (decimal (n / 100)) (two_digits (n % 100))
    ∙ ap (λ bs. c.args.text.now.items ++ bs) (sym (last_two-are n (omega arith) (omega arith)))

pub returns-clause-len : goal.returns-clause-len
returns-clause-len c = omega (arith, length-last_two c.args.number (omega arith) (omega arith), c.put_two_digits.ensures.len, c.put_one_or_two_digits-2.ensures.len)
