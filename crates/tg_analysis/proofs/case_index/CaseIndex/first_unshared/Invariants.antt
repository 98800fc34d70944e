use Rattle.tg_graph.specs.GraphOf.{graph_of}
use Rattle.tg_analysis.specs.Cases.{IsCase, CannotShare, StandsAt}
use Rattle.tg_analysis.proofs.CaseOrder.{IsFirstSpot}
use Rattle.tg_analysis.proofs.case_index.CaseIndex.first_unshared.Given as goal

abbrev pub invariant-loop-index : goal.invariant-loop-index
invariant-loop-index l = IsFirstSpot (λ right i j. IsCase (CannotShare (graph_of l.self.graph)) l.rights (StandsAt l.self.names l.xs) (StandsAt l.self.names l.ys) right i j) l.index l.spot
