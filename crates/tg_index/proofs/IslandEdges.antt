-- Edges that are there, and what those out of an island say of sharing.
use Rattle.std.proofs.Common.{◌≡◌, ℕ, ◌<◌, ◌^◌, ◌↔◌, Bool, true, false, List, [], refl, sym, ap, subst, ◌∙◌, bytes_eq, cond, length, slice_get, get_or, Some, None, arith}
use Rattle.std.specs.List.{position}
use Rattle.std.specs.Map.{keys_of}
use Rattle.std.specs.Option.{option_and_then}
use Rattle.std.proofs.lemmas.Option.{slice_get-get_or, slice_get_within, option_and_then_some}
use Rattle.tg_names.specs.declared.right_sets.Right.{Right}
use Rattle.tg_names.specs.declared.right_sets.Rights.{Rights}
use Rattle.tg_names.specs.Sets.{member}
use Rattle.tg_names.specs.Names.{Name}
use Rattle.tg_graph.specs.Graphs.{WellFormed}
use Rattle.tg_graph.specs.GraphOf.{graph_of}
use Rattle.tg_rows.specs.Rows.{Entries, IsGraph, row_number}
use Rattle.tg_graph.specs.RuleLists.{CanShare}
use Rattle.tg_islands.specs.Sharing.{HeldInIsland, SharedExactly}
use Rattle.tg_islands.specs.Numbering.{AreIslands}
use Rattle.tg_index.specs.IslandEdges.{target_of, HasEdge, HasEdgeFrom}
use Rattle.tg_graph.proofs.Positions.{at-position}
use Rattle.tg_islands.proofs.RowEnds.{IsThere}
use Rattle.tg_islands.proofs.Places.{position-at, place_of, place-known, holds-place, place-holds}

-- ---- an edge that is there
pub is_there : (es : Entries) (right : Right) (a place b : ℕ) → target_of es right a place ≡ Some b → IsThere es right a place b
is_there es right a place b e = option_and_then_some (λ (edge : Name × Rights). cond (member edge.1 right) (position (bytes_eq edge.0) (keys_of es)) None) (slice_get (row_number es a) place) b e by
  where
    by : (edge : Name × Rights) → slice_get (row_number es a) place ≡ Some edge → cond (member edge.1 right) (position (bytes_eq edge.0) (keys_of es)) None ≡ Some b → IsThere es right a place b
    by (name, label) p q = cases (member label right) refl q
      where
        cases : (t : Bool) → member label right ≡ t → cond t (position (bytes_eq name) (keys_of es)) None ≡ Some b → IsThere es right a place b
        cases true t q = record { name = name; label = label; read = p; held = t; known = q }
        cases false t q = cc

pub target-there : (es : Entries) (right : Right) (a place b : ℕ) → IsThere es right a place b → target_of es right a place ≡ Some b
target-there es right a place b h =
    ap (option_and_then (λ (edge : Name × Rights). cond (member edge.1 right) (position (bytes_eq edge.0) (keys_of es)) None)) h.read
    ∙ ap (λ t. cond t (position (bytes_eq h.name) (keys_of es)) None) h.held
    ∙ h.known

pub edge-within : (es : Entries) (numbers : List ℕ) (right : Right) (number b a place : ℕ) → HasEdge es numbers right number b a place → place < length (row_number es a)
edge-within es numbers right number b a place e =
    let t = is_there es right a place b e.leads in slice_get_within (row_number es a) place (t.name, t.label) t.read

-- ---- the edges out of an island say what can be shared
module _ (es : Entries) (ok : IsGraph es) (well : WellFormed (graph_of es)) (shared : SharedExactly) (few_vertices : length (keys_of es) < 2 ^ 64) (numbers : List ℕ) (are : AreIslands (graph_of es) numbers) (right : Right) (i j : ℕ) (x y : Name) (at_x : slice_get (keys_of es) i ≡ Some x) (at_y : slice_get (keys_of es) j ≡ Some y) (number : ℕ) (of_x : slice_get numbers i ≡ Some number) where
  forth : HasEdgeFrom es numbers right 0 (length (keys_of es)) number j → HeldInIsland (graph_of es) right x y
  forth e =
      let t = is_there es right e.a e.place j e.edge.leads in
      let u : Name = get_or (keys_of es) e.a [] in
      let at_u : slice_get (keys_of es) e.a ≡ Some u = slice_get-get_or (keys_of es) e.a [] e.before in
      let there : slice_get (keys_of es) j ≡ Some t.name = at-position (keys_of es) t.name j t.known in
      let same : t.name ≡ y = cc in
      let holds : (graph_of es).holds u right t.name ≡ true = holds-place es ok e.a u at_u e.place t.name t.label right t.read ∙ t.held in
      (u, subst (λ v. (graph_of es).holds u right v ≡ true) same holds, (are.exact i e.a x u at_x at_u).0 (of_x ∙ sym e.edge.of))

  back : HeldInIsland (graph_of es) right x y → HasEdgeFrom es numbers right 0 (length (keys_of es)) number j
  back h =
      let p = place_of (keys_of es) h.0 (well.ends h.0 right y h.1).0 in
      let edge = place-holds es ok p.0 h.0 p.1 right y h.1 in
      record {
        a = p.0;
        place = edge.0;
        from = omega arith;
        before = slice_get_within (keys_of es) p.0 h.0 p.1;
        edge = record {
          of = sym ((are.exact i p.0 x h.0 at_x p.1).1 h.2) ∙ of_x;
          leads = target-there es right p.0 edge.0 j (record { name = y; label = edge.1; read = edge.2; held = edge.3; known = position-at (keys_of es) ok.apart j y at_y });
        };
      }

  pub edge-exact : HasEdgeFrom es numbers right 0 (length (keys_of es)) number j ↔ CanShare (graph_of es) right x y
  edge-exact =
      let law = shared (graph_of es) right x y well few_vertices (place-known (keys_of es) i x at_x) (place-known (keys_of es) j y at_y) in
      (λ e. law.1 (forth e), λ c. back (law.0 c))
