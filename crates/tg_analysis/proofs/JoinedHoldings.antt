-- What islands hold, joined from the last island on.
use Rattle.std.proofs.Common.{◌≡◌, ℕ, ◌<◌, ◌≤◌, Bool, true, false, List, [], ◌∷◌, ◌++◌, refl, sym, ap, ◌∙◌, nat_eq, length, arith, inl, inr, ◌⊎◌, ◌||◌, ◌&&◌}
use Rattle.std.proofs.lemmas.Bool.{cases_lt, eqb-true, eq-eqb}
use Rattle.std.proofs.lemmas.List.{get_or_append_left, length-append}
use Rattle.std.proofs.Math.ListN.{get_or-eq_default}
use Rattle.std.proofs.Math.Seq.{get_or-append_seam}
use Rattle.tg_analysis.specs.Holdings.{is_marked, holds_over, AddsTargets}

apart : (k n : ℕ) → (k ≡ n → ⊥) → nat_eq k n ≡ false
apart k n h = by (nat_eq k n) refl
  where
    by : (b : Bool) → nat_eq k n ≡ b → nat_eq k n ≡ false
    by true e = absurd (h (eqb-true k n e))
    by false e = e

module _ (rest : List (List Bool)) (last : List Bool) where
  -- the last island beside the ones before it
  holds-last : (k b : ℕ) → holds_over (rest ++ last ∷ []) k b ≡ (holds_over rest k b || (nat_eq k (length rest) && is_marked last b))
  holds-last k b = by (cases_lt k (length rest)) (cases_lt (length rest) k)
    where
      or_false : (x : Bool) → x ≡ (x || false)
      or_false true = refl
      or_false false = refl

      by : (k < length rest) ⊎ (length rest ≤ k) → (length rest < k) ⊎ (k ≤ length rest) → holds_over (rest ++ last ∷ []) k b ≡ (holds_over rest k b || (nat_eq k (length rest) && is_marked last b))
      by (inl h) t =
          ap (λ marks. is_marked marks b) (get_or_append_left rest (last ∷ []) [] k h)
          ∙ or_false (holds_over rest k b)
          ∙ ap (λ e. holds_over rest k b || (e && is_marked last b)) (sym (apart k (length rest) (λ e. omega arith)))
      by (inr h) (inl t) =
          ap (λ marks. is_marked marks b) (get_or-eq_default (rest ++ last ∷ []) [] (omega (arith, length-append rest (last ∷ []))))
          ∙ ap (λ marks. is_marked marks b) (sym (get_or-eq_default rest [] h))
          ∙ or_false (holds_over rest k b)
          ∙ ap (λ e. holds_over rest k b || (e && is_marked last b)) (sym (apart k (length rest) (λ e. omega arith)))
      by (inr h) (inr t) =
          let is : k ≡ length rest = omega arith in
          ap (λ n. holds_over (rest ++ last ∷ []) n b) is
          ∙ ap (λ marks. is_marked marks b) (get_or-append_seam rest last [] [])
          ∙ ap (λ marks. is_marked marks b || is_marked last b) (sym (get_or-eq_default rest [] h))
          ∙ ap (λ e. holds_over rest k b || (e && is_marked last b)) (sym (eq-eqb k (length rest) is))

  -- the last island's targets move to the holdings that grow
  pub holds-moved : (old new : List (List Bool)) → AddsTargets old new (length rest) last → (k b : ℕ) → (holds_over new k b || holds_over rest k b) ≡ (holds_over old k b || holds_over (rest ++ last ∷ []) k b)
  holds-moved old new adds k b =
      ap (λ x. x || holds_over rest k b) (adds.held k b)
      ∙ turn (holds_over old k b) (nat_eq k (length rest) && is_marked last b) (holds_over rest k b)
      ∙ ap (λ x. holds_over old k b || x) (sym (holds-last k b))
    where
      turn : (x y z : Bool) → ((x || y) || z) ≡ (x || (z || y))
      turn true y z = refl
      turn false true true = refl
      turn false true false = refl
      turn false false true = refl
      turn false false false = refl
