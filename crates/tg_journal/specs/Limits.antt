-- The limits of a journal.
use Rattle.std.specs.Prelude.{ℕ}

-- how many cells a journal may have
abbrev pub most_cells : ℕ
most_cells = 4096

-- how many passes a journal may have
abbrev pub most_seats : ℕ
most_seats = 64
