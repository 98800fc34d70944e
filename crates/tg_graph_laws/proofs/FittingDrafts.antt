-- Drafts by names, and that drafts commute that have no row in common.
use Rattle.std.proofs.Common.{◌≡◌, ℕ, Bool, true, false, List, ◌++◌, Option, Some, None, refl, sym, ap, ◌∙◌, bytes_eq, is_some, true≢false, ◌||◌, ◌&&◌, not}
use Rattle.std.specs.Option.{option_map_or}
use Rattle.std.specs.List.{list_any}
use Rattle.std.specs.Map.{keys_of, lookup}
use Rattle.std.proofs.lemmas.List.Folds.{list_any-append}
use Rattle.std.proofs.lemmas.Map.Made.{is_some-lookup}
use Rattle.tg_names.specs.Sets.{member, nothing}
use Rattle.tg_rows.specs.Rows.{Edges, Entries, label_in, is_known}
use Rattle.tg_graph.specs.Drafts.{Changes, is_created, laid_over, Fits, FitsByNames, IsDraft, AreApart, FittingIsByNames, ApartCommute}
use Rattle.tg_graph.proofs.NewNames.{filter-alike}
use Rattle.tg_graph.proofs.Drafts.{first_of, lookup-laid, keys-laid, is_created-new, and-left}
use Rattle.tg_graph.proofs.DraftLaws.{known-laid}

-- ---- by names
not_left : (a b : Bool) → (not a && b) ≡ true → a ≡ false
not_left true b h = absurd (true≢false (sym h))
not_left false b h = refl

or-not : (a : Bool) → (a || not a) ≡ true
or-not true = refl
or-not false = refl

not-other : (a b : Bool) → (b ≡ true → a ≡ false) → (a || b) ≡ true → not a ≡ b
not-other true true never h = absurd (true≢false (never refl))
not-other true false never h = refl
not-other false b never h = sym h

vertices_by_names : (base : Entries) (d : Changes) (v : List ℕ) → keys_of (laid_over base d) ≡ keys_of base ++ d.1 → is_known (laid_over base d) v ≡ (is_known base v || is_created d v)
vertices_by_names base d v e = ap (list_any (bytes_eq v)) e ∙ list_any-append (bytes_eq v) (keys_of base) d.1

by_names-from_fits : (base : Entries) (d : Changes) → IsDraft d → Fits base d → FitsByNames base d
by_names-from_fits base d i f = record {
  created = λ v c. not_left (is_known base v) (is_known d.0 v) (sym (is_created-new base d i.rows.apart f v) ∙ c);
  sources = λ u k.
      ap (λ b. is_known base u || b) (is_created-new base d i.rows.apart f u ∙ and-left (not (is_known base u)) (is_known d.0 u) k)
      ∙ or-not (is_known base u);
  targets = λ u v h. sym (vertices_by_names base d v f.vertices) ∙ f.targets u v h;
}

fits-from_names : (base : Entries) (d : Changes) → IsDraft d → FitsByNames base d → Fits base d
fits-from_names base d i n = record { vertices = vertices; targets = λ u v h. vertices_by_names base d v vertices ∙ n.targets u v h }
  where
    vertices : keys_of (laid_over base d) ≡ keys_of base ++ d.1
    vertices =
        keys-laid base d.0 i.rows.apart
        ∙ ap (λ names. keys_of base ++ names)
        (filter-alike (λ v. not (is_known base v)) (is_created d) (keys_of d.0) (λ v k. not-other (is_known base v) (is_created d v) (n.created v) (n.sources v k)) ∙ i.created)

pub fitting_is_by_names : FittingIsByNames
fitting_is_by_names base d i = (by_names-from_fits base d i, fits-from_names base d i)

-- ---- in either order
or-swap : (a b c : Bool) → (a || (b || c)) ≡ (b || (a || c))
or-swap true true c = refl
or-swap true false c = refl
or-swap false b c = refl

first_of-swap : (o p r : Option Edges) → (is_some o ≡ true → is_some p ≡ false) → first_of o (first_of p r) ≡ first_of p (first_of o r)
first_of-swap (Some x) (Some y) r h = absurd (true≢false (h refl))
first_of-swap (Some x) None r h = refl
first_of-swap None p r h = refl

pub known-both : (base : Entries) (d e : Changes) (v : List ℕ) → IsDraft d → IsDraft e → is_known (laid_over (laid_over base e) d) v ≡ (is_known d.0 v || (is_known e.0 v || is_known base v))
known-both base d e v i j =
    known-laid (laid_over base e) d.0 v i.rows.apart ∙ ap (λ b. is_known d.0 v || b) (known-laid base e.0 v j.rows.apart)

pub lookup-both : (base : Entries) (d e : Changes) (u : List ℕ) → IsDraft d → IsDraft e → lookup (bytes_eq u) (laid_over (laid_over base e) d) ≡ first_of (lookup (bytes_eq u) d.0) (first_of (lookup (bytes_eq u) e.0) (lookup (bytes_eq u) base))
lookup-both base d e u i j =
    lookup-laid (laid_over base e) d.0 u i.rows.apart ∙ ap (first_of (lookup (bytes_eq u) d.0)) (lookup-laid base e.0 u j.rows.apart)

pub lookup-swap : (base : Entries) (d e : Changes) (u : List ℕ) → IsDraft d → IsDraft e → AreApart d e → lookup (bytes_eq u) (laid_over (laid_over base e) d) ≡ lookup (bytes_eq u) (laid_over (laid_over base d) e)
lookup-swap base d e u i j a =
    lookup-both base d e u i j
    ∙ first_of-swap (lookup (bytes_eq u) d.0) (lookup (bytes_eq u) e.0) (lookup (bytes_eq u) base) (λ k. is_some-lookup (bytes_eq u) e.0 ∙ a.apart u (sym (is_some-lookup (bytes_eq u) d.0) ∙ k))
    ∙ sym (lookup-both base e d u j i)

pub apart_commute : ApartCommute
apart_commute base d e i j a = record {
  vertices = λ v. known-both base d e v i j ∙ or-swap (is_known d.0 v) (is_known e.0 v) (is_known base v) ∙ sym (known-both base e d v j i);
  triples = λ u right v. ap (λ o. member (option_map_or (λ row. label_in row v) o nothing) right) (lookup-swap base d e u i j a);
}
