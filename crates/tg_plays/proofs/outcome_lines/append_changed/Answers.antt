use Rattle.std.proofs.Common.{◌++◌, ◌∷◌, [], ap, ◌∙◌, append_assoc}
use Rattle.std.specs.Prelude.{codes, decimal}
use Rattle.tg_plays.proofs.outcome_lines.append_changed.Goals as goal

pub returns : goal.returns
returns c =
    let before = c.args.text.now.items in
    let words = codes "refused changed " in
    let place = decimal c.args.place in
    let name = c.args.name in
    let spaced = c.in_ok-push.ensures.items ∙ ap (λ t. t ++ 32 ∷ []) c.in_ok-append_place.ensures in
    c.in_ok-extend_from_slice.ensures.items ∙ (λ i. spaced i ++ c.as_bytes.ensures.value i)
    ∙ (ap (λ t. t ++ name) (append_assoc before (words ++ place) (32 ∷ [])) ∙ append_assoc before ((words ++ place) ++ 32 ∷ []) name
    ∙ ap (λ t. before ++ (words ++ t)) (append_assoc place (32 ∷ []) name))
