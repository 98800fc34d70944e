-- Steps in a list of packed ones.
use Rattle.std.proofs.Common.{◌≡◌, ◌<◌, ℕ, zero, suc, List, [], ◌∷◌, map, Some, None, length, replicate, get_or, refl, sym, ap, ◌∙◌, arith}
use Rattle.std.specs.Prelude.{slice_set}
use Rattle.std.specs.Prelude.{◌++◌, ◌+◌, take, Bool, false, is_some}
use Rattle.std.proofs.lemmas.List.{get_or-map, length-map, map-set, take_more}
use Rattle.tg_flow.specs.declared.ways.Step.{Step}
use Rattle.tg_flow.specs.declared.packed_steps.PackedStep.{PackedStep}
use Rattle.tg_flow.specs.PackedSteps.{step_of, no_step}
use Rattle.tg_flow.specs.Ways.{Steps, is_met}

-- none of so many has a step
pub no-steps : (count : ℕ) → map step_of (replicate count no_step) ≡ replicate count None
no-steps zero = refl
no-steps (suc n) = ap (λ (steps : Steps). None ∷ steps) (no-steps n)

-- a step that is put into it
pub step-put : (items : List PackedStep) (steps : Steps) (v : ℕ) (p : PackedStep) (step : Step) → map step_of items ≡ steps → step_of p ≡ Some step → map step_of (slice_set items v p) ≡ slice_set steps v (Some step)
step-put items steps v p step is told = map-set step_of items v p ∙ (λ i. slice_set (is i) v (told i))

-- the marks of one more position
pub mark-more : (steps : Steps) (marks : List Bool) (v : ℕ) (met : Bool) → v < length steps → marks ≡ take v (map is_some steps) → met ≡ is_met steps v → marks ++ met ∷ [] ≡ take (v + 1) (map is_some steps)
mark-more steps marks v met within are is =
    let mark : met ≡ get_or (map is_some steps) v false = is ∙ sym (get_or-map is_some steps v None false within) in
    (λ i. are i ++ mark i ∷ []) ∙ sym (take_more (map is_some steps) v false (omega (arith, within, length-map steps is_some)))
