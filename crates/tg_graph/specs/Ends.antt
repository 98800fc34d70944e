-- The ends of edges, by position.
use Rattle.std.specs.Prelude.{ℕ, Bool, true, ◌||◌, cond, bytes_eq, slice_get, position, Option, Some, None}
use Rattle.std.specs.Map.{keys_of}
use Rattle.std.specs.Option.{option_map, option_and_then}
use Rattle.tg_names.specs.declared.right_sets.Right.TheVariants.{T, G}
use Rattle.tg_names.specs.declared.right_sets.Rights.{Rights}
use Rattle.tg_graph.specs.declared.ends.Wanted.{Wanted}
use Rattle.tg_graph.specs.declared.ends.Wanted.TheVariants.{All, Links, With}
use Rattle.tg_names.specs.Sets.{member}
use Rattle.tg_rows.specs.Rows.{Entries, row_number}

-- whether an edge with the label is asked for
abbrev pub is_wanted : Wanted → Rights → Bool
is_wanted All label = true
is_wanted Links label = member label T || member label G
is_wanted (With right) label = member label right

-- the position of the target, and the label, of the edge at the place in the row of the vertex at the position, if it is asked for
abbrev pub end_of : Entries → ℕ → ℕ → Wanted → Option (ℕ × Rights)
end_of es a place wanted = option_and_then (λ edge. cond (is_wanted wanted edge.1) (option_map (λ end. (end, edge.1)) (position (bytes_eq edge.0) (keys_of es))) None) (slice_get (row_number es a) place)
