use Rattle.std.proofs.Common.{◌≡◌, ℕ, ◌+◌, ◌<◌, List, [], Option, Some, length, slice_get, get_or, sym, ap, subst, ◌∙◌, arith}
use Rattle.std.specs.Map.{keys_of}
use Rattle.std.proofs.lemmas.Option.{slice_get-get_or}
use Rattle.tg_names.specs.declared.right_sets.Right.{Right}
use Rattle.tg_names.specs.Names.{Name}
use Rattle.tg_graph.specs.GraphOf.{graph_of}
use Rattle.tg_graph.specs.RuleLists.{CanShare}
use Rattle.tg_graph.proofs.Positions.{at-position}
use Rattle.tg_analysis.specs.declared.cases.Spot.{Spot}
use Rattle.tg_index.specs.declared.by_target.Held.{Held}
use Rattle.tg_analysis.specs.Cases.{IsCase, IsClaim, IsIndexed, IsSoonest, AreMembersFrom, CaseIndexed, StandsAt, StandsUnmarked, is_marked}
use Rattle.tg_islands.proofs.RowEnds.{found}
use Rattle.tg_analysis.proofs.CaseOrder.{IsFirstSpot, first-more}
use Rattle.tg_analysis.proofs.FirstCases.{for-names, beyond-soonest, first-case, stands-once, stands-within}
use Rattle.tg_analysis.proofs.LookedIslands.{first-of-each}
use Rattle.tg_analysis.proofs.case_index.CaseIndex.first_beyond.Goals as goal

pub loop-index-preserved : goal.loop-index-preserved
loop-index-preserved c =
    let self = c.args.self.now in
    let inside = c.self.inside in
    let names = self.names in
    let g = self.graph in
    let ys = c.args.ys.now in
    let rights = c.args.rights in
    let is = subst (λ (i : CaseIndexed). IsIndexed i.graph i.names inside.numbers.items inside.held.items inside.members.firsts.items inside.members.nexts.items) c.self.view_is c.self.invariant in
    let numbers = inside.numbers.items in
    let numbered = for-names (keys_of g) is.islands names numbers is.numbered in
    let allowed = c.args.allowed.now in
    let before = c.loop-index.invariant in
    let looks = c.look_at.ensures in
    let beyond = c.look_at.new.self in
    let places : length beyond.places.items ≡ length inside.members.firsts.items = looks.places ∙ before.places in
    let has = λ (numbers : List ℕ) (members : AreMembersFrom numbers 0 inside.members.firsts.items inside.members.nexts.items). looks.has numbers members (before.has numbers members) in
    let index = c.loop-index.index in
    let place = get_or ys index 0 in
    let at = slice_get-get_or ys index 0 c.loop-index-test.true in
    let y = get_or names place [] in
    let at_name = slice_get-get_or names place [] (c.requires index place at) in
    let at_y : StandsAt names ys index y = (place, at, at_name) in
    let there = found (keys_of g) y (is.known place y at_name) in
    let entries = c.entries_at-entries.result.now in
    let held = subst (λ (l : List (List Held)). slice_get l place ≡ Some entries) c.deref.ensures.value c.entries_at-entries.ensures in
    let over = is.held_over in
    let said = over.by_edges.said place there.0 y entries held at_name there.1 in
    let next = subst (λ (places : List (Option ℕ)). IsSoonest (IsClaim entries places rights (length entries)) c.soonest-next.result) c.deref-in-loop-index.ensures.value c.soonest-next.ensures in
    let each = first-of-each numbers (is_marked allowed) beyond entries (has numbers is.members) (λ k n h. subst (λ m. n < m) (sym places) (is.below k n h)) (λ at entry h low. looks.looked at entry h (subst (λ m. entry.number < m) looks.places low)) in
    let soonest = beyond-soonest g is.graph is.well_formed c.shared_exactly.ensures is.few is.islands is.are_islands over.list over.listed rights (λ i x. slice_get names i ≡ Some x) (StandsAt names ys) numbers numbered index there.0 y at_y (λ v h. stands-once names ys index y v at_y h) (at-position (keys_of g) y there.0 there.1) entries said (is_marked allowed) beyond.places.items each c.soonest-next.result next in
    let claim = λ (right : Right) (i j : ℕ). IsCase (λ right x y. CanShare (graph_of g) right x y) rights (StandsUnmarked names allowed) (StandsAt names ys) right i j in
    record {
      spot = subst (IsFirstSpot claim (index + 1)) (sym c.earlier-spot.ensures) (first-more claim index c.loop-index.spot c.soonest-next.result before.spot soonest);
      len = looks.len ∙ before.len ∙ sym looks.places;
      places = places;
      has = has;
    }

pub returns : goal.returns
returns c =
    let names = c.args.self.now.names in
    let ys = c.args.ys.now in
    let claim = λ (right : Right) (x y : Name). CanShare (graph_of c.args.self.now.graph) right x y in
    let end : c.loop-index.index ≡ length ys = omega arith in
    let allowed = c.args.allowed.now in
    let first = subst (λ n. IsFirstSpot (λ right i j. IsCase claim c.args.rights (StandsUnmarked names allowed) (StandsAt names ys) right i j) n c.loop-index.spot) end c.loop-index.invariant.spot in
    let some = subst (λ (l : List Name). (s : Spot) (x y : Name) → c.loop-index.spot ≡ Some s → slice_get l s.x ≡ Some x → StandsAt l ys s.y y → c.case_of.result ≡ Some (record { right = s.right; x = x; y = y })) (c.deref-2.ensures.value ∙ ap (λ (i : CaseIndexed). i.names) c.self.view_is) c.case_of.ensures.some in
    first-case claim c.args.rights (StandsUnmarked names allowed) (StandsAt names ys) (length ys) (λ j y h. stands-within names ys j y h) c.loop-index.spot c.case_of.result first c.case_of.ensures.none (λ s x y e at_x at_y. some s x y e at_x.0 at_y)
