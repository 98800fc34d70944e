-- Drafts over one base and another, and drafts that have no row in common.
use Rattle.std.proofs.Common.{◌≡◌, ℕ, Bool, true, false, List, ◌++◌, Option, Some, None, refl, sym, ap, ◌∙◌, bytes_eq, is_some, true≢false, ◌||◌, not}
use Rattle.std.specs.Option.{option_map_or}
use Rattle.std.specs.List.{IsDistinct}
use Rattle.std.specs.Map.{keys_of, lookup}
use Rattle.std.proofs.Math.Bool.{or-true}
use Rattle.std.proofs.lemmas.Map.Made.{is_some-lookup}
use Rattle.indexmap.specs.IndexMap.{insert_all}
use Rattle.tg_names.specs.declared.right_sets.Right.{Right}
use Rattle.tg_names.specs.Sets.{member, nothing}
use Rattle.tg_rows.specs.Rows.{Edges, Entries, label_in, is_known}
use Rattle.tg_graph.specs.GraphOf.{graph_of}
use Rattle.tg_graph.specs.Drafts.{Changes, laid_over, ApartFit}
use Rattle.tg_graph.proofs.NewNames.{filter-alike}
use Rattle.tg_graph.proofs.Drafts.{first_of, lookup-laid, keys-laid, created-new}

pub known-laid : (base rows : Entries) (v : List ℕ) → IsDistinct bytes_eq (keys_of rows) → is_known (insert_all bytes_eq base rows) v ≡ (is_known rows v || is_known base v)
known-laid base rows v d =
    sym (is_some-lookup (bytes_eq v) (insert_all bytes_eq base rows))
    ∙ ap is_some (lookup-laid base rows v d)
    ∙ by (lookup (bytes_eq v) rows) (lookup (bytes_eq v) base)
    ∙ (λ i. is_some-lookup (bytes_eq v) rows i || is_some-lookup (bytes_eq v) base i)
  where
    by : (o p : Option Edges) → is_some (first_of o p) ≡ (is_some o || is_some p)
    by (Some row) p = refl
    by None p = refl

-- ---- what a draft stands for over one base and another
module _ (d : Changes) (p : IsDistinct bytes_eq (keys_of d.0)) (u : List ℕ) where
  -- a row of the draft is the same whatever the base
  pub lookup-drafted : (one other : Entries) → is_known d.0 u ≡ true → lookup (bytes_eq u) (laid_over one d) ≡ lookup (bytes_eq u) (laid_over other d)
  lookup-drafted one other k =
      lookup-laid one d.0 u p
      ∙ by (lookup (bytes_eq u) d.0) (is_some-lookup (bytes_eq u) d.0 ∙ k)
      ∙ sym (lookup-laid other d.0 u p)
    where
      by : (o : Option Edges) → is_some o ≡ true → first_of o (lookup (bytes_eq u) one) ≡ first_of o (lookup (bytes_eq u) other)
      by (Some row) h = refl
      by None h = absurd (true≢false (sym h))

  -- each other row is that of the base
  pub lookup-left : (base : Entries) → is_known d.0 u ≡ false → lookup (bytes_eq u) (laid_over base d) ≡ lookup (bytes_eq u) base
  lookup-left base k = lookup-laid base d.0 u p ∙ by (lookup (bytes_eq u) d.0) (is_some-lookup (bytes_eq u) d.0 ∙ k)
    where
      by : (o : Option Edges) → is_some o ≡ false → first_of o (lookup (bytes_eq u) base) ≡ lookup (bytes_eq u) base
      by (Some row) h = absurd (true≢false h)
      by None h = refl

  pub holds-drafted : (one other : Entries) (right : Right) (v : List ℕ) → is_known d.0 u ≡ true → (graph_of (laid_over one d)).holds u right v ≡ (graph_of (laid_over other d)).holds u right v
  holds-drafted one other right v k = ap (λ o. member (option_map_or (λ row. label_in row v) o nothing) right) (lookup-drafted one other k)

  pub holds-left : (base : Entries) (right : Right) (v : List ℕ) → is_known d.0 u ≡ false → (graph_of (laid_over base d)).holds u right v ≡ (graph_of base).holds u right v
  holds-left base right v k = ap (λ o. member (option_map_or (λ row. label_in row v) o nothing) right) (lookup-left base k)

-- ---- drafts that have no row in common
or-more : (a b c : Bool) → (a || c) ≡ true → (a || (b || c)) ≡ true
or-more true b c h = refl
or-more false b c h = ap (λ x. b || x) h ∙ or-true b

pub apart_fit : ApartFit
apart_fit base d e i j a f = record {
  vertices =
      keys-laid (laid_over base e) d.0 i.rows.apart
      ∙ ap (λ names. keys_of (laid_over base e) ++ names)
      (filter-alike (λ v. not (is_known (laid_over base e) v)) (λ v. not (is_known base v)) (keys_of d.0) (λ v k. ap not (known-laid base e.0 v j.rows.apart ∙ ap (λ b. b || is_known base v) (a.apart v k)))
      ∙ created-new base d i.rows.apart f);
  targets = λ u v h.
      known-laid (laid_over base e) d.0 v i.rows.apart
      ∙ ap (λ b. is_known d.0 v || b) (known-laid base e.0 v j.rows.apart)
      ∙ or-more (is_known d.0 v) (is_known e.0 v) (is_known base v) (sym (known-laid base d.0 v i.rows.apart) ∙ f.targets u v h);
}
