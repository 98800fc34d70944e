-- A step back in a search.
use Rattle.std.proofs.Common.{◌≡◌, ℕ, zero, suc, ◌<◌, ◌==◌, false, if◌then◌else◌, Option, Some, None, slice_get, refl, sym, ap, ◌∙◌, arith}
use Rattle.std.proofs.lemmas.Bool.Decides.{nat_tests}
use Rattle.std.specs.Option.{option_and_then}
use Rattle.tg_names.specs.Names.{Name}
use Rattle.tg_sharing.specs.Searches.{Visits, back_of}

pub some_pair : (a b : Name × ℕ) → Some a ≡ Some b → (a.0 ≡ b.0) × (a.1 ≡ b.1)
some_pair a b h = let e : a ≡ b = cc in (ap (λ (t : Name × ℕ). t.0) e, ap (λ (t : Name × ℕ). t.1) e)

-- what stands before the visit
abbrev pub before_visit : Visits → Name × ℕ → Option (Name × ℕ)
before_visit met visit = option_and_then {U = Name × ℕ} (λ (b : Name × ℕ). Some (b.0, visit.1)) (slice_get met visit.1)

suc_test : (n : ℕ) → (suc n == 0) ≡ false
suc_test n = grind (arith, nat_tests)

pub back_suc : (met : Visits) (n : ℕ) → back_of met (suc n) ≡ option_and_then {U = Name × ℕ} (before_visit met) (slice_get met (suc n))
back_suc met n = ap (λ b. if b then None else option_and_then {U = Name × ℕ} (before_visit met) (slice_get met (suc n))) (suc_test n)

-- what a step back says
pub record StepBack (met : Visits) (place : ℕ) (v : Name) (before : ℕ) : Type 0 where
  pub positive : 0 < place
  pub name : Name
  pub here : slice_get met place ≡ Some (name, before)
  pub from : ℕ
  pub there : slice_get met before ≡ Some (v, from)

pub step_back : (met : Visits) (place : ℕ) (v : Name) (before : ℕ) → back_of met place ≡ Some (v, before) → StepBack met place v before
step_back met zero v before h = absurd (cc)
step_back met (suc n) v before h = go (slice_get met (suc n)) refl (sym (back_suc met n) ∙ h)
  where
    go : (o : Option (Name × ℕ)) → slice_get met (suc n) ≡ o → option_and_then {U = Name × ℕ} (before_visit met) o ≡ Some (v, before) → StepBack met (suc n) v before
    go None e h = absurd (cc)
    go (Some visit) e h = inner (slice_get met visit.1) refl h
      where
        inner : (o : Option (Name × ℕ)) → slice_get met visit.1 ≡ o → option_and_then {U = Name × ℕ} (λ (b : Name × ℕ). Some (b.0, visit.1)) o ≡ Some (v, before) → StepBack met (suc n) v before
        inner None f h = absurd (cc)
        inner (Some b) f h =
            let same = some_pair (b.0, visit.1) (v, before) h in
            record {
              positive = omega arith;
              name = visit.0;
              here = e ∙ ap (λ n. Some (visit.0, n)) same.1;
              from = b.1;
              there = ap (slice_get met) (sym same.1) ∙ f ∙ ap (λ n. Some (n, b.1)) same.0;
            }
