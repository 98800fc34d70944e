-- The limits that texts, sessions, derivations and tables keep.
use Rattle.std.specs.Prelude.{ℕ}

-- how many vertices there may be in the graph of a text, a session or a derivation
abbrev pub most_vertices : ℕ
most_vertices = 4096

-- how many cells a journal may have
abbrev pub most_cells : ℕ
most_cells = 4096

-- how many seats there may be
abbrev pub most_seats : ℕ
most_seats = 64

-- how many workers there may be for a table of all pairs
abbrev pub most_workers : ℕ
most_workers = 16
