-- The table of all pairs, the blocks of rows in which workers compute it, and its faults.
use Rattle.std.specs.Prelude.{◌≡◌, ℕ, ◌+◌, ◌*◌, ◌/◌, ◌<◌, ◌≤◌, ◌↔◌, Bool, ◌||◌, IsTrue, if◌then◌else◌, nat_eq, nat_lt, List, length, slice_get, slice_index_or, Option, Some, None, Result, IfOk, ◌⊎◌}
use Rattle.std.specs.Option.{option_map}
use Rattle.tg_names.specs.declared.right_sets.Right.{Right}
use Rattle.tg_graph.specs.Limits.{most_vertices, most_workers}
use Rattle.tg_names.specs.Names.{Name}
use Rattle.tg_graph.specs.Graphs.{ProtectionGraph}
use Rattle.tg_rows.specs.Rows.{Entries}
use Rattle.tg_graph.specs.RuleLists.{CanShare}
use Rattle.tg_analysis.specs.Holdings.{holds_over}
use Rattle.tg_analysis.specs.Gathered.{Gathers}
use Rattle.tg_analysis.specs.declared.table_faults.TableFault.{TableFault}
use Rattle.tg_analysis.specs.declared.table_faults.TableFault.TheVariants.{Workers, TooLarge, Memory}

-- the number of the island of each vertex by position, and what each island holds
pub record Table : Type 0 where
  pub numbers : List ℕ
  pub held : List (List Bool)

-- how many rows there are, and cells in each
abbrev pub table_len : Table → ℕ
table_len table = length table.numbers

-- whether the island of the vertex at i holds the right over the one at j; none outside
abbrev pub table_cell : Table → ℕ → ℕ → Option Bool
table_cell table i j =
    if nat_lt j (table_len table) then option_map (λ number. holds_over table.held number j) (slice_get table.numbers i) else None

-- the cell is there, and says whether the claim holds
pub record TellsWhether (claim : Type 0) (cell : Option Bool) : Type 0 where
  pub answer : Bool
  pub is : cell ≡ Some answer
  pub exact : IsTrue answer ↔ claim

-- of each two vertices the cell says whether some list of rules gives the first the right over the second, and there are no more cells
pub record IsPairTable (g : ProtectionGraph) (right : Right) (table : Table) : Type 0 where
  pub len : table_len table ≡ length g.vertices
  pub inside : (i j : ℕ) (x y : Name) → slice_get g.vertices i ≡ Some x → slice_get g.vertices j ≡ Some y → TellsWhether (CanShare g right x y) (table_cell table i j)
  pub outside : (i j : ℕ) → (length g.vertices ≤ i) ⊎ (length g.vertices ≤ j) → table_cell table i j ≡ None

-- the first fault of a question for a table
abbrev pub table_fault : ProtectionGraph → ℕ → Option TableFault
table_fault g workers =
    if nat_eq workers 0 || nat_lt most_workers workers then Some Workers else (if nat_lt most_vertices (length g.vertices) then Some TooLarge else None)

-- the fault that is due, or want of memory where none is
abbrev pub IsDueTableFault : Option TableFault → TableFault → Type 0
IsDueTableFault due Memory = due ≡ None
IsDueTableFault due TooLarge = due ≡ Some TooLarge
IsDueTableFault due Workers = due ≡ Some Workers

-- where the rows of a block begin, and those of the block before it end
abbrev pub block_start : ℕ → ℕ → ℕ → ℕ
block_start block workers count = block * count / workers

-- each block has what the edges out of its vertices say, or want of memory
abbrev pub AreBlocks : {E : Type 0} → Entries → List ℕ → Right → ℕ → List (Result (List (List Bool)) E) → Type 0
AreBlocks es numbers right workers blocks =
    (block : ℕ) (d : _) → block < length blocks → IfOk (slice_index_or blocks block d) (λ held. Gathers es numbers right (block_start block workers (length es)) (block_start (block + 1) workers (length es)) held)
