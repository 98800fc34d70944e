use Rattle.std.proofs.Common.{◌≡◌, ◌++◌, take}
use Rattle.std.specs.List.{flat_map}
use Rattle.tg_text.specs.Canonical.{vertex_line}
use Rattle.tg_text.proofs.canonical.append_vertices.Given as goal

abbrev pub invariant-loop-name : goal.invariant-loop-name
invariant-loop-name l = l.text.items ≡ l.initial.text.items ++ flat_map vertex_line (take l.name-index l.names)
