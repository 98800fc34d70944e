-- Who holds rights over one vertex.
use Rattle.std.specs.Prelude.{IsTrue}
use Rattle.tg_names.specs.declared.right_sets.Right.{Right}
use Rattle.tg_names.specs.declared.right_sets.Rights.{Rights}
use Rattle.tg_names.specs.Sets.{member}
use Rattle.tg_names.specs.Names.{Name}
use Rattle.tg_graph.specs.Graphs.{ProtectionGraph}

-- some vertex holds the right over y
abbrev pub IsHeld : ProtectionGraph → Right → Name → Type 0
IsHeld g right y = (s : Name) × IsTrue (g.holds s right y)

-- some vertex holds each right of the set over y, not the same one for each
abbrev pub AreHeld : ProtectionGraph → Rights → Name → Type 0
AreHeld g rights y = (right : Right) → IsTrue (member rights right) → IsHeld g right y
