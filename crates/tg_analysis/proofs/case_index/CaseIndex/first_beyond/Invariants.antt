use Rattle.std.proofs.Common.{◌≡◌, ℕ, List, length}
use Rattle.tg_graph.specs.GraphOf.{graph_of}
use Rattle.tg_graph.specs.RuleLists.{CanShare}
use Rattle.tg_analysis.specs.Cases.{IsCase, AreMembersFrom, HasLooked, StandsAt, StandsUnmarked, is_marked}
use Rattle.tg_analysis.proofs.CaseOrder.{IsFirstSpot}
use Rattle.tg_analysis.proofs.case_index.CaseIndex.first_beyond.Given as goal

abbrev pub invariant-loop-index : goal.invariant-loop-index
invariant-loop-index l = record {
  spot : IsFirstSpot (λ right i j. IsCase (λ right x y. CanShare (graph_of l.self.graph) right x y) l.rights (StandsUnmarked l.self.names l.allowed) (StandsAt l.self.names l.ys) right i j) l.index l.spot;
  len : length l.beyond.looked.items ≡ length l.beyond.places.items;
  places : length l.beyond.places.items ≡ length l.self-inside.members.firsts.items;
  has : (numbers : List ℕ) → AreMembersFrom numbers 0 l.self-inside.members.firsts.items l.self-inside.members.nexts.items → HasLooked numbers (is_marked l.allowed) l.beyond;
}
