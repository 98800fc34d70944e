use Rattle.std.proofs.Common.{◌≡◌, ◌++◌, List, ℕ, length, map, Some, bytes_eq, slice_get}
use Rattle.std.specs.Map.{keys_of}
use Rattle.indexmap.specs.IndexSet.{insert_all as set_all}
use Rattle.tg_graph.proofs.draft.Draft.positions.Given as goal

-- the vertices of the rows so far stand at the positions so far, and a new one would stand at the next
abbrev pub invariant-loop-name : goal.invariant-loop-name
invariant-loop-name l =
    (done : List (List ℕ))
    × (keys_of l.self.0 ≡ done ++ keys_of l.name-iterator)
    × (map (slice_get (set_all bytes_eq (keys_of l.base) done)) l.positions.items ≡ map Some done)
    × (l.next ≡ length (set_all bytes_eq (keys_of l.base) done))
