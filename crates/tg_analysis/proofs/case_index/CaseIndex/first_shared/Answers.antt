use Rattle.std.proofs.Common.{◌≡◌, ℕ, ◌+◌, List, [], Option, Some, length, slice_get, get_or, sym, ap, subst, ◌∙◌, arith}
use Rattle.std.specs.Map.{keys_of}
use Rattle.std.proofs.lemmas.Option.{slice_get-get_or}
use Rattle.tg_names.specs.declared.right_sets.Right.{Right}
use Rattle.tg_names.specs.Names.{Name}
use Rattle.tg_graph.specs.GraphOf.{graph_of}
use Rattle.tg_graph.specs.RuleLists.{CanShare}
use Rattle.tg_graph.proofs.Positions.{at-position}
use Rattle.tg_analysis.specs.declared.cases.Spot.{Spot}
use Rattle.tg_index.specs.declared.by_target.Held.{Held}
use Rattle.tg_analysis.specs.Cases.{IsCase, IsClaim, IsIndexed, IsSoonest, CaseIndexed, AreNumbersAt, AreHeads, StandsAt}
use Rattle.tg_islands.proofs.RowEnds.{found}
use Rattle.tg_analysis.proofs.CaseOrder.{IsFirstSpot, first-more}
use Rattle.tg_analysis.proofs.FirstCases.{for-places, shared-soonest, first-case, numbers-at-below, stands-once, stands-within}
use Rattle.tg_analysis.proofs.case_index.CaseIndex.first_shared.Goals as goal

pub loop-index-preserved : goal.loop-index-preserved
loop-index-preserved c =
    let self = c.args.self.now in
    let inside = c.self.inside in
    let names = self.names in
    let g = self.graph in
    let xs = c.args.xs.now in
    let ys = c.args.ys.now in
    let rights = c.args.rights in
    let is = subst (λ (i : CaseIndexed). IsIndexed i.graph i.names inside.numbers.items inside.held.items inside.members.firsts.items inside.members.nexts.items) c.self.view_is c.self.invariant in
    let numbers = c.in_ok-numbers.numbers.items in
    let at_places = subst (λ (l : List ℕ). AreNumbersAt l xs (length xs) numbers) c.deref.ensures.value c.in_ok-numbers.ensures in
    let numbered = for-places (keys_of g) is.islands names inside.numbers.items is.numbered xs numbers c.requires.xs at_places in
    let heads = c.in_ok-heads.heads in
    let are_heads = subst (λ (l : List ℕ). AreHeads l (length l) heads.places.items heads.order.items) c.as_slice.ensures.value c.in_ok-heads.ensures in
    let index = c.loop-index.index in
    let place = get_or ys index 0 in
    let at = slice_get-get_or ys index 0 c.loop-index-test.true in
    let y = get_or names place [] in
    let at_name = slice_get-get_or names place [] (c.requires.ys index place at) in
    let at_y : StandsAt names ys index y = (place, at, at_name) in
    let there = found (keys_of g) y (is.known place y at_name) in
    let entries = c.entries_at-entries.result.now in
    let held = subst (λ (l : List (List Held)). slice_get l place ≡ Some entries) c.deref-in-loop-index.ensures.value c.entries_at-entries.ensures in
    let over = is.held_over in
    let said = over.by_edges.said place there.0 y entries held at_name there.1 in
    let next = subst (λ (places : List (Option ℕ)). IsSoonest (IsClaim entries places rights (length entries)) c.soonest-next.result) c.deref-in-loop-index-2.ensures.value c.soonest-next.ensures in
    let soonest = shared-soonest g is.graph is.well_formed c.shared_exactly.ensures is.few is.islands is.are_islands over.list over.listed rights (StandsAt names xs) (StandsAt names ys) numbers numbered index there.0 y at_y (λ v h. stands-once names ys index y v at_y h) (at-position (keys_of g) y there.0 there.1) entries said heads.places.items heads.order.items are_heads c.soonest-next.result next in
    let claim = λ (right : Right) (i j : ℕ). IsCase (λ right x y. CanShare (graph_of g) right x y) rights (StandsAt names xs) (StandsAt names ys) right i j in
    subst (IsFirstSpot claim (index + 1)) (sym c.earlier-spot.ensures) (first-more claim index c.loop-index.spot c.soonest-next.result c.loop-index.invariant soonest)

pub returns : goal.returns
returns c =
    let names = c.args.self.now.names in
    let xs = c.args.xs.now in
    let ys = c.args.ys.now in
    let claim = λ (right : Right) (x y : Name). CanShare (graph_of c.args.self.now.graph) right x y in
    let end : c.loop-index.index ≡ length ys = omega arith in
    let first = subst (λ n. IsFirstSpot (λ right i j. IsCase claim c.args.rights (StandsAt names xs) (StandsAt names ys) right i j) n c.loop-index.spot) end c.loop-index.invariant in
    let some = subst (λ (l : List Name). (s : Spot) (x y : Name) → c.loop-index.spot ≡ Some s → StandsAt l xs s.x x → StandsAt l ys s.y y → c.case_at.result ≡ Some (record { right = s.right; x = x; y = y })) (c.deref-2.ensures.value ∙ ap (λ (i : CaseIndexed). i.names) c.self.view_is) c.case_at.ensures.some in
    first-case claim c.args.rights (StandsAt names xs) (StandsAt names ys) (length ys) (λ j y h. stands-within names ys j y h) c.loop-index.spot c.case_at.result first c.case_at.ensures.none some

pub of-requires : goal.of-requires
of-requires c = record {
  below = λ k n h.
      let inside = c.self.inside in
      let xs = c.args.xs.now in
      let numbers = c.in_ok-numbers.numbers.items in
      let at_places = subst (λ (l : List ℕ). AreNumbersAt l xs (length xs) numbers) c.deref.ensures.value c.in_ok-numbers.ensures in
      let there = subst (λ (l : List ℕ). slice_get l k ≡ Some n) c.as_slice.ensures.value h in
      let below = numbers-at-below inside.numbers.items xs numbers (length inside.members.firsts.items) at_places c.self.invariant.below k n there in
      omega (arith, below, c.len.ensures, inside.members.firsts.ok);
}

pub entries_at-entries-requires : goal.entries_at-entries-requires
entries_at-entries-requires c =
    let ys = c.args.ys.now in
    let index = c.loop-index.index in
    let low = c.requires.ys index (get_or ys index 0) (slice_get-get_or ys index 0 c.loop-index-test.true) in
    let names = ap {B = ℕ} (λ (i : CaseIndexed). length i.names) c.self.view_is in
    omega (arith, low, names, c.self.invariant.held_over.by_edges.len, c.deref-in-loop-index.ensures.len, ap {B = ℕ} (λ (l : List (List Held)). length l) c.deref-in-loop-index.ensures.value)
