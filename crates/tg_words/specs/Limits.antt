-- The limits of texts.
use Rattle.std.specs.Prelude.{ℕ}

-- how many bytes a line may have, its line feed not counted
abbrev pub most_line_bytes : ℕ
most_line_bytes = 256

-- how many vertices a graph's text of version 1 may have
abbrev pub most_vertices_of_one : ℕ
most_vertices_of_one = 1024

-- how many rules a text of rules may have
abbrev pub most_rules : ℕ
most_rules = 131072

-- how many events a script may have
abbrev pub most_events : ℕ
most_events = 65536

-- how many lines a policy may have, those that are skipped not counted
abbrev pub most_policy_lines : ℕ
most_policy_lines = 65536
