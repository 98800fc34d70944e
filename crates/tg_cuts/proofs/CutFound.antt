-- What the parts of a search for a cut bring, is the cut.
use Rattle.std.proofs.Common.{◌≡◌, ℕ, ◌<◌, ◌≤◌, ◌^◌, Bool, true, false, not, ◌&&◌, ◌||◌, List, length, slice_get, Some, refl, sym, ap, subst, ◌∙◌, bytes_eq, IsTrue}
use Rattle.std.specs.List.{position}
use Rattle.std.specs.Map.{keys_of}
use Rattle.std.proofs.lemmas.Option.{none-some, same_Some}
use Rattle.std.proofs.lemmas.Bool.{false≢true, or_right, and_parts, not-false}
use Rattle.tg_flow.specs.declared.edges.FlowEdge.{FlowEdge}
use Rattle.tg_flow.specs.declared.edges.Role.{Role}
use Rattle.tg_flow.specs.declared.edges.Role.TheVariants.{Link, Both}
use Rattle.tg_flow.specs.Flows.{crosses, crosses_by}
use Rattle.tg_flow.specs.Courses.{is_in}
use Rattle.tg_flow.specs.Cuts.{UnitsCross, SidesPart, AreFewest, AreParted, leads_out}
use Rattle.tg_names.specs.declared.right_sets.Right.{Right}
use Rattle.tg_names.specs.declared.right_sets.Right.TheVariants.{T, G}
use Rattle.tg_graph.specs.declared.rules.Rule.{Rule}
use Rattle.tg_names.specs.Sets.{member}
use Rattle.tg_names.specs.Names.{Name, same_name}
use Rattle.tg_graph.specs.Graphs.{has_vertex, WellFormed}
use Rattle.tg_graph.specs.GraphOf.{graph_of}
use Rattle.tg_rows.specs.Rows.{Entries, IsGraph}
use Rattle.tg_rows.proofs.Rows.{same_bytes}
use Rattle.tg_cuts.specs.declared.kept.Ends.{Ends}
use Rattle.tg_islands.specs.Moves.{take_and_grant}
use Rattle.tg_islands.specs.Sharing.{SharedExactly}
use Rattle.tg_cuts.specs.Cuts.{IsTheCut, HasNoCut}
use Rattle.tg_cuts.specs.CutParts.{role_by, name_at, AreEndless, AreSides, free_of, AreLosses}
use Rattle.tg_islands.proofs.Places.{position-at, place_of, place-known}
use Rattle.tg_cuts.proofs.Able.{able-can}
use Rattle.tg_cuts.proofs.Removed.{loses-vertex, loses-well, cut-keeps}
use Rattle.tg_cuts.proofs.FlowEdges.{AreEdgesOf, name-is, carried-edges, carried-places, free-at}
use Rattle.tg_cuts.proofs.Bounds.{endless-able}
use Rattle.tg_cuts.proofs.Sides.{link-ties, rules-few, is-least}
use Rattle.tg_cuts.proofs.Nearest.{kept-able, is-nearest}
use Rattle.tg_cuts.proofs.Needed.{is-needed}

-- an edge to the end whose label links as well is both
out-ends : (l e : Bool) (role : Role) → role_by l e ≡ Some role → leads_out role ≡ true → e ≡ true
out-ends true true role is out = refl
out-ends false true role is out = refl
out-ends true false role is out = absurd (false≢true (ap leads_out (same_Some Link role is) ∙ out))
out-ends false false role is out = absurd (none-some role is)

both-crosses : (e a : Bool) (role : Role) → role_by true e ≡ Some role → e ≡ true → (b : Bool) → b ≡ true → crosses_by a b role ≡ true
both-crosses true a role is ends b h = ap (crosses_by a b) (sym (same_Some Both role is)) ∙ or_right a b h
both-crosses false a role is ends b h = absurd (false≢true ends)

module _ (es : Entries) (ok : IsGraph es) (well : WellFormed (graph_of es)) (small : length (keys_of es) < 2 ^ 64) (shared : SharedExactly) (right : Right) (x y : Name) (kept : List Ends) (i j : ℕ) (x_at : slice_get (keys_of es) i ≡ Some x) (y_at : slice_get (keys_of es) j ≡ Some y) where
  at_x : name_at es i ≡ x
  at_x = name-is es i x x_at

  x_there : IsTrue (has_vertex (graph_of es) x)
  x_there = place-known (keys_of es) i x x_at

  y_there : IsTrue (has_vertex (graph_of es) y)
  y_there = place-known (keys_of es) j y y_at

  -- the kept edges leave no cut
  pub endless-none : AreEndless es right y kept i → HasNoCut (graph_of es) right x y kept
  endless-none a h lost loses keeps =
      let can = endless-able (graph_of es) right x y kept (name_at es) i at_x a.edges (carried-edges es ok well right y kept a.edges a.carried) h lost loses keeps a.endless in
      able-can h right y (loses-well (graph_of es) h lost loses well) (subst (λ (vs : List Name). length vs < 2 ^ 64) (sym loses.vertices) small) shared (loses-vertex (graph_of es) h lost loses y y_there) x (loses-vertex (graph_of es) h lost loses x x_there) can

  module _ (cross : UnitsCross) (part : SidesPart) (marks : List Bool) (sides : AreSides es right y kept i j (is_in marks)) where
    are : AreEdgesOf (graph_of es) right y kept (name_at es) sides.edges
    are = carried-edges es ok well right y kept sides.edges sides.carried

    places : (k : ℕ) (e : FlowEdge) → slice_get sides.edges k ≡ Some e → (position (bytes_eq (name_at es e.source)) (keys_of es) ≡ Some e.source) × (position (bytes_eq (name_at es e.target)) (keys_of es) ≡ Some e.target)
    places = carried-places es ok well right y kept sides.edges sides.carried

    fewest : AreFewest sides.edges i sides.units sides.near
    fewest = cross sides.edges i sides.units sides.full sides.near sides.are_near

    placed : (k : ℕ) (e : FlowEdge) → slice_get sides.edges k ≡ Some e → (free_of es marks (name_at es e.source) ≡ not (is_in marks e.source)) × (free_of es marks (name_at es e.target) ≡ not (is_in marks e.target))
    placed k e at = let p = places k e at in (free-at es marks (name_at es e.source) e.source p.0, free-at es marks (name_at es e.target) e.target p.1)

    at_y : (k : ℕ) (e : FlowEdge) → slice_get sides.edges k ≡ Some e → name_at es e.target ≡ y → e.target ≡ j
    at_y k e at is =
        let p = places k e at in
        same_Some e.target j (sym p.1 ∙ ap (λ (v : Name). position (bytes_eq v) (keys_of es)) is ∙ position-at (keys_of es) ok.apart j y y_at)

    stands : (v : Name) → IsTrue (has_vertex (graph_of es) v) → (a : ℕ) × (name_at es a ≡ v) × (free_of es marks v ≡ not (is_in marks a))
    stands v there = let p = place_of (keys_of es) v there in (p.0, name-is es p.0 v p.1, free-at es marks v p.0 (position-at (keys_of es) ok.apart p.0 v p.1))

    -- where the holders do not count, each edge to the end crosses the near ones
    anyway : (k : ℕ) (e : FlowEdge) → slice_get sides.edges k ≡ Some e → not (member take_and_grant right && sides.near j) ≡ false → leads_out e.role ≡ true → crosses sides.near e ≡ true
    anyway k e at none out =
        let u = name_at es e.source in
        let v = name_at es e.target in
        let f = are.from k e at in
        let links = and_parts (member take_and_grant right) (sides.near j) (not-false (member take_and_grant right && sides.near j) none) in
        let ends = out-ends ((graph_of es).holds u T v || (graph_of es).holds u G v) (same_name v y && (graph_of es).holds u right v) e.role f.serves out in
        let p = and_parts (same_name v y) ((graph_of es).holds u right v) ends in
        let tie = link-ties (graph_of es) u right v links.0 p.1 in
        let is : role_by true (same_name v y && (graph_of es).holds u right v) ≡ Some e.role = ap (λ b. role_by b (same_name v y && (graph_of es).holds u right v)) (sym tie) ∙ f.serves in
        both-crosses (same_name v y && (graph_of es).holds u right v) (sides.near e.source) e.role is ends (sides.near e.target) (ap sides.near (at_y k e at (same_bytes v y p.0)) ∙ links.1)

    parted : AreParted sides.edges sides.near (is_in marks)
    parted = part sides.edges (not (member take_and_grant right && sides.near j)) sides.near (is_in marks) sides.are_beyond anyway

    x_free : free_of es marks x ≡ true
    x_free = free-at es marks x i (position-at (keys_of es) ok.apart i x x_at) ∙ ap not (parted.apart i sides.are_near.first)

    module _ (rules : List Rule) (losses : AreLosses (graph_of es) right y (free_of es marks) rules) where
      few : length rules ≤ sides.units
      few = rules-few (graph_of es) right x y kept (name_at es) i at_x sides.edges are sides.units sides.near (is_in marks) (free_of es marks) placed parted fewest rules losses

      -- the rules for what is lost are the cut
      pub found : IsTheCut (graph_of es) right x y kept rules
      found =
          let least = is-least (graph_of es) right x y kept (name_at es) i at_x sides.edges are sides.units sides.near (is_in marks) (free_of es marks) placed parted fewest rules losses well small shared x_there y_there x_free in
          let can = kept-able (graph_of es) right x y kept (name_at es) i j at_x sides.edges are sides.units sides.near (is_in marks) at_y sides.are_beyond parted.apart fewest (free_of es marks) placed stands rules losses few well small shared x_there y_there in
          record {
            least_cut = least;
            nearest = is-nearest (graph_of es) right x y kept (name_at es) i j at_x sides.edges are sides.units sides.near (is_in marks) at_y sides.are_beyond parted.apart fewest (free_of es marks) placed stands rules losses few well small shared x_there y_there;
            needed = is-needed (graph_of es) right x y kept (free_of es marks) rules losses least (cut-keeps (graph_of es) kept rules least.held) x_free can well small shared x_there y_there;
          }
