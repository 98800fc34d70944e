use Rattle.std.proofs.Common.{◌≡◌, ◌<◌, ◌^◌, ℕ, List, Some, length, slice_get, sym, subst, arith}
use Rattle.std.specs.Map.{keys_of}
use Rattle.std.proofs.lemmas.Map.Entries.{length-keys_of}
use Rattle.tg_names.specs.Names.{Name}
use Rattle.tg_analysis.specs.Cases.{AreMembersFrom, IsIndexed}
use Rattle.tg_analysis.proofs.Claims.{numbers-below}
use Rattle.tg_analysis.proofs.case_index.CaseIndex.of.Goals as goal

pub of-requires : goal.of-requires
of-requires c = λ k n h.
    let names = c.args.names.now in
    let numbers = c.in_ok-numbers.numbers.items in
    let there = subst (λ (l : List ℕ). slice_get l k ≡ Some n) c.as_slice.ensures.value h in
    numbers-below (keys_of c.args.graph.now) c.in_ok-islands.islands names (length names) numbers c.count.result c.in_ok-numbers.ensures (omega arith) c.count.ensures k n there

pub invariant_of-result : goal.invariant_of-result
invariant_of-result c =
    let g = c.args.graph.now in
    let names = c.args.names.now in
    let numbers = c.in_ok-numbers.numbers.items in
    let members = c.in_ok-members.members in
    let few : length (keys_of g) < 2 ^ 64 = omega (arith, c.len.type_inv, c.len.ensures.value, length-keys_of g) in
    let low = λ (k n : ℕ) (h : slice_get numbers k ≡ Some n). numbers-below (keys_of g) c.in_ok-islands.islands names (length names) numbers c.count.result c.in_ok-numbers.ensures (omega arith) c.count.ensures k n h in
    subst (λ (l : List Name). IsIndexed g l numbers c.in_ok-held.held.items members.firsts.items members.nexts.items) (sym c.in_ok-from_slice.ensures.items) (record {
      graph = c.len.ensures.graph;
      well_formed = c.len.ensures.well_formed;
      few = few;
      known = c.requires;
      islands = c.in_ok-islands.islands;
      are_islands = c.in_ok-islands.ensures;
      numbered = c.in_ok-numbers.ensures;
      below = λ k n h. subst (λ m. n < m) (sym c.in_ok-members.ensures.len) (low k n h);
      held_over = c.in_ok-held.ensures;
      members = subst (λ (l : List ℕ). AreMembersFrom l 0 members.firsts.items members.nexts.items) c.as_slice.ensures.value c.in_ok-members.ensures.members;
    })
