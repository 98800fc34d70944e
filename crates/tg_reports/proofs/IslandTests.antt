-- The numbers of islands tell which vertices lie in one island, and so which lines there are.
use Rattle.std.proofs.Common.{◌≡◌, ℕ, ◌<◌, Bool, true, ◌||◌, List, [], ◌∷◌, ◌++◌, length, get_or, Option, Some, None, refl, sym, ap, ◌∙◌, subst, slice_get, bytes_eq, nat_eq, filter, arith}
use Rattle.std.specs.Prelude.{option_and_then}
use Rattle.std.specs.List.{IsDistinct, flat_map}
use Rattle.std.specs.Option.{option_eq, option_map_or}
use Rattle.std.proofs.lemmas.Bool.{eqb-true, eq-eqb, false≢true}
use Rattle.std.proofs.lemmas.Option.{slice_get_within, slice_get-get_or}
use Rattle.tg_names.specs.Names.{Name, same_name}
use Rattle.tg_graph.specs.Graphs.{ProtectionGraph, has_vertex}
use Rattle.tg_text.specs.Canonical.{in_name_order}
use Rattle.tg_text.proofs.NameOrder.{among, among-in_order, same_name-refl}
use Rattle.tg_islands.specs.Numbering.{AreIslands, number_of}
use Rattle.tg_islands.proofs.Places.{place_of, position-at}
use Rattle.tg_reports.specs.Reports.{TellsIslands, islands_text, island_line}
use Rattle.tg_reports.specs.ReportParts.{with_number, numbered_line, numbered_text}
use Rattle.tg_reports.proofs.OneReport.{either_true}

-- the vertices have one number
abbrev pub have_one_number : List Name → List ℕ → Name → Name → Bool
have_one_number vs numbers v w = option_eq nat_eq (number_of vs numbers w) (number_of vs numbers v)

-- ---- lines of numbered vertices
module _ (vs : List Name) (numbers : List ℕ) where
  line_is : (all : List Name) (v : Name) (k : ℕ) → number_of vs numbers v ≡ Some k → numbered_line vs numbers all v ≡ island_line v (filter (have_one_number vs numbers v) all)
  line_is all v k e =
      ap (λ (o : Option ℕ). option_map_or (λ n. island_line v (with_number vs numbers n all)) o []) e
      ∙ sym (ap (λ (o : Option ℕ). island_line v (filter (λ w. option_eq nat_eq (number_of vs numbers w) o) all)) e)

  lines_are : (all names : List Name) → ((v : Name) → among v names ≡ true → (k : ℕ) × (number_of vs numbers v ≡ Some k)) → flat_map (numbered_line vs numbers all) names ≡ flat_map (λ v. island_line v (filter (have_one_number vs numbers v) all)) names
  lines_are all [] h = refl
  lines_are all (v ∷ names) h =
      let n = h v (ap (λ b. b || among v names) (same_name-refl v)) in
      ap (λ (t : List ℕ). t ++ flat_map (numbered_line vs numbers all) names) (line_is all v n.0 n.1)
      ∙ ap (λ (t : List ℕ). island_line v (filter (have_one_number vs numbers v) all) ++ t) (lines_are all names (λ u k. h u (either_true (same_name u v) (among u names) k)))

same_option : (m n : Option ℕ) → option_eq nat_eq m n ≡ true → m ≡ n
same_option None None h = refl
same_option None (Some b) h = absurd (false≢true h)
same_option (Some a) None h = absurd (false≢true h)
same_option (Some a) (Some b) h = ap Some (eqb-true a b h)

option_itself : (m : Option ℕ) → option_eq nat_eq m m ≡ true
option_itself None = refl
option_itself (Some a) = eq-eqb a a refl

test_from : (m n : Option ℕ) → m ≡ n → option_eq nat_eq m n ≡ true
test_from m n e = let P : Option ℕ → Type 0 = λ k. option_eq nat_eq m k ≡ true in subst P e (option_itself m)

number_is : (vs : List Name) (numbers : List ℕ) → IsDistinct bytes_eq vs → (v : Name) (a : ℕ) → slice_get vs a ≡ Some v → number_of vs numbers v ≡ slice_get numbers a
number_is vs numbers apart v a e = ap (λ (o : Option ℕ). option_and_then (λ place. slice_get numbers place) o) (position-at vs apart a v e)

-- each vertex has a number
vertex_number : (g : ProtectionGraph) (numbers : List ℕ) → IsDistinct bytes_eq g.vertices → AreIslands g numbers → (v : Name) → has_vertex g v ≡ true → (k : ℕ) × (number_of g.vertices numbers v ≡ Some k)
vertex_number g numbers apart are v h =
    let place = place_of g.vertices v h in
    let inside : place.0 < length numbers = omega (arith, are.len, slice_get_within g.vertices place.0 v place.1) in
    (get_or numbers place.0 0, number_is g.vertices numbers apart v place.0 place.1 ∙ slice_get-get_or numbers place.0 0 inside)

-- the lines of the vertices with their numbers are those of the islands
pub numbered_text_is : (g : ProtectionGraph) (numbers : List ℕ) → IsDistinct bytes_eq g.vertices → AreIslands g numbers → numbered_text g.vertices numbers (in_name_order g.vertices) ≡ islands_text (have_one_number g.vertices numbers) (in_name_order g.vertices)
numbered_text_is g numbers apart are =
    let all = in_name_order g.vertices in
    lines_are g.vertices numbers all all (λ v h. vertex_number g numbers apart are v (sym (among-in_order v g.vertices) ∙ h))

-- one number is one island
pub tells_islands : (g : ProtectionGraph) (numbers : List ℕ) → IsDistinct bytes_eq g.vertices → AreIslands g numbers → TellsIslands g (have_one_number g.vertices numbers)
tells_islands g numbers apart are u v hu hv =
    let pu = place_of g.vertices u hu in
    let pv = place_of g.vertices v hv in
    let nu = number_is g.vertices numbers apart u pu.0 pu.1 in
    let nv = number_is g.vertices numbers apart v pv.0 pv.1 in
    let exact = are.exact pu.0 pv.0 u v pu.1 pv.1 in (
      λ t. exact.0 (sym nu ∙ (sym (same_option (number_of g.vertices numbers v) (number_of g.vertices numbers u) t) ∙ nv)),
      λ i. test_from (number_of g.vertices numbers v) (number_of g.vertices numbers u) (nv ∙ (sym (exact.1 i) ∙ sym nu)),
    )
