use Rattle.std.proofs.Common.{◌≡◌, ℕ, ◌*◌, ◌<◌, ◌≤◌, Bool, nat_eq, ◌&&◌, Bor, List, [], ◌∷◌, map, length, refl, sym, ap, ◌∙◌, arith}
use Rattle.std.proofs.lemmas.Bool.{le-leb}
use Rattle.std.proofs.lemmas.List.{length-map}
use Rattle.tg_inputs.specs.Calls.{most_kept, are_keeps, are_kept}
use Rattle.tg_inputs.proofs.words.are_kept.Goals as goal

-- fewer words than three keep edges only where there are none
few_left : {A : Type 0} (word : A → List ℕ) (left : List A) → length left < 3 → nat_eq (length left) 0 ≡ are_keeps (map word left)
few_left word [] few = refl
few_left word (option ∷ []) few = refl
few_left word (option ∷ source ∷ []) few = refl
few_left word (option ∷ source ∷ target ∷ rest) few = absurd (omega arith)

kept_few : (words : List (List ℕ)) → length words ≤ 3 * most_kept → are_keeps words ≡ are_kept words
kept_few words within = ap (λ (b : Bool). b && are_keeps words) (sym (le-leb (length words) (3 * most_kept) within))

pub returns : goal.returns
returns c =
    let word = λ (w : Bor (List ℕ)). w.now in
    let words = map word c.args.words.now in
    let long = length-map c.args.words.now word in
    c.is_empty.ensures ∙ (few_left word c.loop-left.left.now (omega arith) ∙ (c.loop-left.invariant ∙ kept_few words (omega (arith, long))))
