use Rattle.std.proofs.Common.{◌≡◌, arith, rules, drop, false, true, refl, get_or, length}
use Rattle.std.proofs.lemmas.List.{drop_all}
use Rattle.tg_words.specs.Lines.{is_blank, begins_with_word}
use Rattle.tg_words.proofs.Cuts.{word_at, no_word_begins, no_blank}
use Rattle.tg_words.proofs.lines.word_len.Goals as goal

pub returns-then-is_blank-clause-word : goal.returns-then-is_blank-clause-word
returns-then-is_blank-clause-word c =
    let i = c.loop-i.i in
    let bytes = c.args.bytes.now in
    let blank : is_blank (get_or bytes i 0) ≡ true = search rules in
    word_at bytes i c.loop-i.invariant (omega arith) (omega arith) (no_word_begins bytes i c.loop-i-test.true blank)

pub returns-clause-word : goal.returns-clause-word
returns-clause-word c =
    let bytes = c.args.bytes.now in
    let end : begins_with_word (drop (length bytes) bytes) ≡ false = rw (drop_all (length bytes) bytes (omega arith)) refl in
    word_at bytes (length bytes) (λ k lt. c.loop-i.invariant k (omega arith)) (no_blank bytes c.requires).0 (omega arith) end
