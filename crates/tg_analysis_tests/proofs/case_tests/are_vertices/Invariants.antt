use Rattle.std.proofs.Common.{◌≡◌, ℕ, ◌<◌, true, Some, slice_get}
use Rattle.tg_names.specs.Names.{Name}
use Rattle.tg_graph.specs.Graphs.{has_vertex}
use Rattle.tg_graph.specs.GraphOf.{graph_of}
use Rattle.tg_analysis_tests.proofs.case_tests.are_vertices.Given as goal

abbrev pub invariant-loop-name : goal.invariant-loop-name
invariant-loop-name l = (i : ℕ) (v : Name) → i < l.name-index → slice_get l.names i ≡ Some v → has_vertex (graph_of l.graph) v ≡ true
