use Rattle.std.proofs.Common.{ℕ, List, [], ◌∷◌, ◌++◌, get_or, refl, sym, ap, ◌∙◌}
use Rattle.std.proofs.lemmas.List.{append-nil}
use Rattle.tg_names.specs.declared.right_sets.Right.{Right}
use Rattle.tg_names.specs.declared.right_sets.Right.TheVariants.{T}
use Rattle.tg_reports.proofs.ReachLetters.{letters-more, letter-there, letter-absent}
use Rattle.tg_reports.proofs.reach_lines.append_letters.Goals as goal
use Rattle.tg_reports.proofs.reach_lines.append_letters.Goals.{then-has+in_ok-push, else-has}

pub loop-right-preserved : goal.loop-right-preserved
loop-right-preserved c =
    let rights = c.args.rights.now in
    let i = c.loop-right.right-index in
    let right : Right = get_or rights i T in
    let s = c.args.set in
    let front = c.args.text.now.items in
    let before = c.loop-right.text.items in
    elim c.if-has.branch [
      | then-has+in_ok-push w ↦
          rw w.text-is (letters-more s rights i right front before w.push.new.self.items c.loop-right-test.true refl c.loop-right.invariant
          (w.in_ok-push.ensures.items ∙ ap (λ (l : ℕ). before ++ l ∷ []) w.letter.ensures ∙ ap (λ (bs : List ℕ). before ++ bs) (sym (letter-there s right (sym c.has.ensures ∙ w.if-has.true)))))
      | else-has w ↦
          rw w.text-is (letters-more s rights i right front before before c.loop-right-test.true refl c.loop-right.invariant
          (sym (append-nil before) ∙ ap (λ (bs : List ℕ). before ++ bs) (sym (letter-absent s right (sym c.has.ensures ∙ w.if-has.false)))))
    ]
