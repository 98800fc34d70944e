-- Which fault a question about two names meets.
use Rattle.std.specs.Prelude.{◌≡◌, not, if◌then◌else◌, nat_lt, length, Option, Some, None}
use Rattle.tg_graph.specs.Limits.{most_vertices}
use Rattle.tg_names.specs.Names.{Name}
use Rattle.tg_graph.specs.Graphs.{ProtectionGraph, has_vertex}
use Rattle.tg_islands.specs.declared.questions.AskFault.{AskFault}
use Rattle.tg_islands.specs.declared.questions.AskFault.TheVariants.{Unknown, TooLarge, Memory}

-- the first of the two names that is no vertex, or what comes later
abbrev pub unknown_or : ProtectionGraph → Name → Name → Option AskFault → Option AskFault
unknown_or g x y later =
    if not (has_vertex g x) then Some (Unknown x) else (if not (has_vertex g y) then Some (Unknown y) else later)

-- the fault of a question that takes a graph of any size
abbrev pub question_fault : ProtectionGraph → Name → Name → Option AskFault
question_fault g x y = unknown_or g x y None

-- the fault of a question that takes a limited number of vertices
abbrev pub derivation_fault : ProtectionGraph → Name → Name → Option AskFault
derivation_fault g x y = unknown_or g x y (if nat_lt most_vertices (length g.vertices) then Some TooLarge else None)

-- the fault that is due, or want of memory where none is
abbrev pub IsDueFault : Option AskFault → AskFault → Type 0
IsDueFault due Memory = due ≡ None
IsDueFault due TooLarge = due ≡ Some TooLarge
IsDueFault due (Unknown v) = due ≡ Some (Unknown v)
