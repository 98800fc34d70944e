-- The row of a vertex, as the vertices and triples alone give it.
use Rattle.std.specs.Prelude.{◌≡◌, Option, Some, None, if◌then◌else◌}
use Rattle.std.specs.Map.{keys_of, lookup}
use Rattle.std.specs.Ordering.{nat_cmp}
use Rattle.std.specs.List.Sorted.{IsStrictlySortedBy}
use Rattle.std.specs.Cmp.Lexicographic.{slice_cmp}
use Rattle.tg_names.specs.declared.right_sets.Rights.{Rights}
use Rattle.tg_names.specs.Sets.{is_empty_set}
use Rattle.tg_names.specs.Names.{Name, same_name}
use Rattle.tg_graph.specs.Graphs.{ProtectionGraph}
use Rattle.tg_rows.specs.Rows.{Edges}
use Rattle.tg_graph.specs.Additions.{label_between}

abbrev pub unless_empty : Rights → Option Rights
unless_empty s = if is_empty_set s then None else Some s

-- the edges out of u: in strict name order, to each v with a label that is not empty, and to no other
pub record IsRowOf (g : ProtectionGraph) (u : Name) (row : Edges) : Type 0 where
  pub sorted : IsStrictlySortedBy (slice_cmp nat_cmp) (keys_of row)
  pub edges : (v : Name) → lookup (same_name v) row ≡ unless_empty (label_between g u v)
