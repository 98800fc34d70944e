use Rattle.std.proofs.Common.{◌≡◌, ◌≤◌, ◌++◌, take, vec_capacity}
use Rattle.std.specs.List.{flat_map}
use Rattle.std.specs.Map.{keys_of}
use Rattle.tg_graph.specs.GraphOf.{graph_of}
use Rattle.tg_text.specs.Canonical.{in_name_order, row_text}
use Rattle.tg_text.proofs.canonical.append_rows.Given as goal

abbrev pub invariant-loop-source : goal.invariant-loop-source
invariant-loop-source l = record {
  items : l.text.items ≡ l.initial.text.items ++ flat_map (row_text (graph_of l.graph) (in_name_order (keys_of l.graph))) (take l.source-index l.sources);
  room : 21 ≤ vec_capacity l.front;
}
