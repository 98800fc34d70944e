-- A graph that is built: the edges out of some vertices wait as labels by position, in place of their rows.
use Rattle.std.specs.Prelude.{◌≡◌, ℕ, ◌<◌, true, ◌||◌, List, [], ◌∷◌, get_or, length, position}
use Rattle.std.specs.Option.{option_map_or}
use Rattle.std.specs.List.{list_any}
use Rattle.std.specs.Map.{keys_of}
use Rattle.tg_names.specs.declared.right_sets.Right.{Right}
use Rattle.tg_names.specs.declared.right_sets.Rights.{Rights}
use Rattle.tg_names.specs.Sets.{member, nothing}
use Rattle.tg_names.specs.Names.{Name, same_name}
use Rattle.tg_graph.specs.Graphs.{ProtectionGraph}
use Rattle.tg_rows.specs.Rows.{Edges, Entries, label_in, label_of, is_target}

-- the item at the position of v among the names, or the one that stands for none
abbrev pub item_of : {A : Type 0} → A → List Name → List A → Name → A
item_of none names items v = option_map_or (λ place. get_or items place none) (position (same_name v) names) none

-- the label that waits for the edge to v
abbrev pub label_for : List Name → List Rights → Name → Rights
label_for = item_of nothing

-- the labels that wait in place of the row of u: none, or one for each position
abbrev pub waiting_of : List Name → List (List Rights) → Name → List Rights
waiting_of = item_of []

-- the label of the edge to v as it waits, or else as the row has it
abbrev pub waiting_or : List Name → List Rights → Name → Rights → Rights
waiting_or names [] v label = label
waiting_or names (l ∷ labels) v label = label_for names (l ∷ labels) v

-- the label of the edge from u to v
abbrev pub label_built : Entries → List (List Rights) → Name → Name → Rights
label_built es waits u v = waiting_or (keys_of es) (waiting_of (keys_of es) waits u) v (label_of es u v)

-- what is built: the vertices with their rows, and what waits
abbrev pub Building : Type 0
Building = Entries × List (List Rights)

abbrev pub graph_built : Building → ProtectionGraph
graph_built b = record { vertices = keys_of b.0; holds = λ u right v. member (label_built b.0 b.1 u v) right }

-- what waits, waits for a vertex, and has a label for each position
abbrev pub MayWait : Building → Type 0
MayWait b = (k : ℕ) → 0 < length (get_or b.1 k []) → (k < length b.0) × (length (get_or b.1 k []) ≡ length b.0)

-- labels move to a row: what the row has and what is left are all that there were
pub record IsMoving (names : List Name) (labels : List Rights) (row : Edges) (left : List Rights) : Type 0 where
  pub members : (v : Name) (right : Right) → (member (label_in row v) right || member (label_for names left v) right) ≡ member (label_for names labels v) right
  pub targets : (v : Name) → is_target row v ≡ true → list_any (same_name v) names ≡ true

-- the row has the labels
pub record HasMoved (names : List Name) (labels : List Rights) (row : Edges) : Type 0 where
  pub members : (v : Name) (right : Right) → member (label_in row v) right ≡ member (label_for names labels v) right
  pub targets : (v : Name) → is_target row v ≡ true → list_any (same_name v) names ≡ true
