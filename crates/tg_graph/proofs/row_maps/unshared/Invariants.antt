use Rattle.std.proofs.Common.{◌≡◌, bytes_eq}
use Rattle.indexmap.specs.IndexMap.{insert_all}
use Rattle.tg_graph.proofs.row_maps.unshared.Given as goal

-- what is left leads to the same rows
abbrev pub invariant-loop-n : goal.invariant-loop-n
invariant-loop-n l = insert_all bytes_eq l.copy.entries l.n-iterator ≡ l.rows.entries
