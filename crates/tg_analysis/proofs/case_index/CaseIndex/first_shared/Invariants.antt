use Rattle.tg_graph.specs.GraphOf.{graph_of}
use Rattle.tg_graph.specs.RuleLists.{CanShare}
use Rattle.tg_analysis.specs.Cases.{IsCase, StandsAt}
use Rattle.tg_analysis.proofs.CaseOrder.{IsFirstSpot}
use Rattle.tg_analysis.proofs.case_index.CaseIndex.first_shared.Given as goal

abbrev pub invariant-loop-index : goal.invariant-loop-index
invariant-loop-index l = IsFirstSpot (λ right i j. IsCase (λ right x y. CanShare (graph_of l.self.graph) right x y) l.rights (StandsAt l.self.names l.xs) (StandsAt l.self.names l.ys) right i j) l.index l.spot
