-- Marks of those that a search has met.
use Rattle.std.proofs.Common.{◌≡◌, ℕ, zero, suc, Bool, true, List, [], ◌∷◌, map, Option, Some, None, refl, sym, ap, ◌∙◌, subst, ◌⊎◌, inl, inr}
use Rattle.std.specs.Prelude.{is_some}
use Rattle.tg_flow.specs.declared.edges.FlowEdge.{FlowEdge}
use Rattle.tg_flow.specs.Edges.{at_side}
use Rattle.tg_flow.specs.Ways.{Steps, is_met}
use Rattle.tg_flow.specs.Courses.{is_in, IsWhole}
use Rattle.tg_flow.specs.Searches.{SearchOf, HasFirst, HasAll, HasMet, IsOver, from_near, beyond}
use Rattle.tg_flow.specs.Sides.{AreNear, AreBeyond}
use Rattle.tg_flow.proofs.Found.{leads-more}

pub marks-met : (steps : Steps) (v : ℕ) → is_in (map is_some steps) v ≡ is_met steps v
marks-met [] v = refl
marks-met (o ∷ os) zero = refl
marks-met (o ∷ os) (suc v) = marks-met os v

module _ (search : SearchOf) (steps : Steps) (marks : List Bool) (over : IsOver search steps) (nobody_sought : search.sought ≡ None) (put : marks ≡ map is_some steps) where
  marked : (v : ℕ) → is_in marks v ≡ is_met steps v
  marked v = ap (λ (ms : List Bool). is_in ms v) put ∙ marks-met steps v

  all : HasAll search steps
  all = by over.end
    where
      by : HasMet search.sought steps ⊎ HasAll search steps → HasAll search steps
      by (inl met) = absurd (subst (λ (o : Option ℕ). HasMet o steps) nobody_sought met)
      by (inr all) = all

  pub marks-whole : IsWhole search.course search.near (is_in marks) search.edges
  marks-whole k e here at lead = marked (at_side e here) ∙ all k e here at (leads-more search.course search.near (is_in marks) (is_met steps) e here (λ v h. sym (marked v) ∙ h) lead)

  pub marks-least : (s : ℕ → Bool) → HasFirst search.first s → IsWhole search.course search.near s search.edges → (v : ℕ) → is_in marks v ≡ true → s v ≡ true
  marks-least s first whole v h = over.is_search.least s first whole v (sym (marked v) ∙ h)

  pub marks-first : HasFirst search.first (is_in marks)
  marks-first = by search.first over.is_search.begun
    where
      by : (first : Option ℕ) → HasFirst first (is_met steps) → HasFirst first (is_in marks)
      by None h = tt
      by (Some v) h = marked v ∙ h

pub near-found : (edges : List FlowEdge) (x : ℕ) (steps : Steps) (marks : List Bool) → IsOver (from_near edges x) steps → marks ≡ map is_some steps → AreNear edges x (is_in marks)
near-found edges x steps marks over put = record {
  first = marks-first (from_near edges x) steps marks over refl put;
  whole = marks-whole (from_near edges x) steps marks over refl put;
  least = marks-least (from_near edges x) steps marks over refl put;
}

pub beyond-found : (edges : List FlowEdge) (has_holders : Bool) (near : ℕ → Bool) (steps : Steps) (marks : List Bool) → IsOver (beyond edges has_holders near) steps → marks ≡ map is_some steps → AreBeyond edges has_holders near (is_in marks)
beyond-found edges has_holders near steps marks over put = record {
  whole = marks-whole (beyond edges has_holders near) steps marks over refl put;
  least = λ s whole. marks-least (beyond edges has_holders near) steps marks over refl put s tt whole;
}
