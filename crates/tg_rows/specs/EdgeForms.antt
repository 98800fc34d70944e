-- Lists of edges in one of two forms.
use Rattle.tg_rows.specs.declared.edge_list.Form.{Form}
use Rattle.tg_rows.specs.declared.edge_list.Form.TheVariants.{Listed, ToAll}
use Rattle.tg_rows.specs.Rows.{Edges}

-- the edges, in either form
abbrev pub edges_in : Form → Edges
edges_in (Listed edges) = edges
edges_in (ToAll edges) = edges
