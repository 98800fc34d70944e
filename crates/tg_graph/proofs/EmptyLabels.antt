-- Where a label is empty there is no edge.
use Rattle.std.proofs.Common.{◌≡◌, ℕ, ◌<◌, List, Option, None, Some, IfSome, is_some, unwrap_or, not, refl, ap, subst, ◌∙◌, bytes_eq, arith}
use Rattle.std.specs.Option.{option_map_or}
use Rattle.std.specs.Map.{lookup}
use Rattle.std.proofs.lemmas.Bool.Decides.{nat_tests}
use Rattle.tg_names.specs.declared.right_sets.Rights.{Rights}
use Rattle.tg_names.specs.Sets.{member, rights_where, nothing, is_empty_set, IsNamed}
use Rattle.tg_graph.specs.GraphOf.{graph_of}
use Rattle.tg_rows.specs.Rows.{Edges, Entries, IsGraph, IsRow, IsLabel, label_in, is_target}
use Rattle.tg_graph.specs.Additions.{label_between}
use Rattle.tg_names.proofs.Sets.{where-member}

pub label_named : (o : Option Rights) → IfSome o IsLabel → IsNamed (unwrap_or o nothing)
label_named None h = omega arith
label_named (Some s) h = h.named

-- an edge is there exactly where the label is not empty
pub empty-between : (es : Entries) (u v : List ℕ) (row : Edges) → IsGraph es → lookup (bytes_eq u) es ≡ Some row → is_empty_set (label_between (graph_of es) u v) ≡ not (is_target row v)
empty-between es u v row g e =
    let r : IsRow row = subst (λ o. IfSome o IsRow) e (g.rows u) in
    let l = label_named (lookup (bytes_eq v) row) (r.labelled v) in
    ap (λ o. is_empty_set (rights_where (λ right. member (option_map_or (λ row. label_in row v) o nothing) right))) e
    ∙ ap is_empty_set (where-member (label_in row v) l)
    ∙ by (lookup (bytes_eq v) row) (r.labelled v)
  where
    by : (o : Option Rights) → IfSome o IsLabel → is_empty_set (unwrap_or o nothing) ≡ not (is_some o)
    by None h = refl
    by (Some s) h = let some : 0 < s.0 = h.some in grind (arith, nat_tests)
