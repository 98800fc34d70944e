-- The four rules: when one is refused, and the graph after it.
use Rattle.std.specs.Prelude.{◌≡◌, Bool, ◌&&◌, ◌||◌, not, if◌then◌else◌, [], ◌∷◌, ◌++◌, Option, None, Some, Result, Ok, Err}
use Rattle.tg_names.specs.declared.right_sets.Right.{Right}
use Rattle.tg_names.specs.declared.right_sets.Right.TheVariants.{T, G}
use Rattle.tg_names.specs.declared.right_sets.Rights.{Rights}
use Rattle.tg_graph.specs.declared.rules.Rule.{Rule}
use Rattle.tg_graph.specs.declared.rules.Rule.TheVariants.{Take, Grant, Create, Remove}
use Rattle.tg_graph.specs.declared.rules.Refusal.{Refusal}
use Rattle.tg_graph.specs.declared.rules.Refusal.TheVariants.{Unknown, Taken, Empty, NoTake, NoGrant, NotHeld}
use Rattle.tg_graph.specs.declared.rules.RuleFault.{RuleFault}
use Rattle.tg_graph.specs.declared.rules.RuleFault.TheVariants.{Refused, Memory}
use Rattle.tg_names.specs.Sets.{member, rights_where, is_empty_set}
use Rattle.tg_names.specs.Names.{Name, same_name}
use Rattle.tg_graph.specs.Graphs.{ProtectionGraph, has_vertex}

abbrev pub refused_if : Bool → Refusal → Option Refusal → Option Refusal
refused_if test refusal later = if test then Some refusal else later

abbrev pub unknown : ProtectionGraph → Name → Option Refusal → Option Refusal
unknown g v later = refused_if (not (has_vertex g v)) (Unknown v) later

-- the rights of s that x does not hold over y
abbrev pub missing : ProtectionGraph → Name → Name → Rights → Rights
missing g x y s = rights_where (λ right. member s right && not (g.holds x right y))

abbrev pub not_held : Rights → Option Refusal
not_held s = refused_if (not (is_empty_set s)) (NotHeld s) None

-- the first refusal that applies
unfoldable pub refusal_of : ProtectionGraph → Rule → Option Refusal
refusal_of g (Take x y z s) =
    unknown g x (unknown g y (unknown g z (refused_if (is_empty_set s) Empty (refused_if (not (g.holds x T y)) NoTake (not_held (missing g y z s))))))
refusal_of g (Grant x y z s) =
    unknown g x (unknown g y (unknown g z (refused_if (is_empty_set s) Empty (refused_if (not (g.holds x G y)) NoGrant (not_held (missing g x z s))))))
refusal_of g (Create x n s) = unknown g x (refused_if (has_vertex g n) (Taken n) None)
refusal_of g (Remove x y s) = unknown g x (unknown g y (refused_if (is_empty_set s) Empty None))

-- a set of triples with those of s from x to y as well
abbrev pub with_edge : (Name → Right → Name → Bool) → Name → Name → Rights → Name → Right → Name → Bool
with_edge holds x y s u right v = holds u right v || (same_name u x && same_name v y && member s right)

-- without them
abbrev pub without_edge : (Name → Right → Name → Bool) → Name → Name → Rights → Name → Right → Name → Bool
without_edge holds x y s u right v = holds u right v && not (same_name u x && same_name v y && member s right)

-- the graph in which x has the rights of s over y as well
abbrev pub with_rights : ProtectionGraph → Name → Name → Rights → ProtectionGraph
with_rights g x y s = record { vertices = g.vertices; holds = with_edge g.holds x y s }

-- without them
abbrev pub without_rights : ProtectionGraph → Name → Name → Rights → ProtectionGraph
without_rights g x y s = record { vertices = g.vertices; holds = without_edge g.holds x y s }

-- the graph in which n is a vertex as well, the last
abbrev pub with_vertex : ProtectionGraph → Name → ProtectionGraph
with_vertex g n = record { vertices = g.vertices ++ n ∷ []; holds = g.holds }

-- the graph after an accepted rule
unfoldable pub after : ProtectionGraph → Rule → ProtectionGraph
after g (Take x y z s) = with_rights g x z s
after g (Grant x y z s) = with_rights g y z s
after g (Create x n s) = with_rights (with_vertex g n) x n s
after g (Remove x y s) = without_rights g x y s

-- what `check` answers
abbrev pub verdict : Option Refusal → Result (Unit {0}) Refusal
verdict None = Ok tt
verdict (Some refusal) = Err refusal

-- an outcome of `apply`: the rule is carried out, refused, or there was no memory
abbrev pub Applies : ProtectionGraph → Rule → Result (Unit {0}) RuleFault → ProtectionGraph → Type 0
Applies g rule (Ok _) h = (refusal_of g rule ≡ None) × (h ≡ after g rule)
Applies g rule (Err (Refused refusal)) h = (refusal_of g rule ≡ Some refusal) × (h ≡ g)
Applies g rule (Err Memory) h = (refusal_of g rule ≡ None) × (h ≡ g)

-- the rights that a rule carries
abbrev pub rights_of : Rule → Rights
rights_of (Take x y z s) = s
rights_of (Grant x y z s) = s
rights_of (Create x n s) = s
rights_of (Remove x y s) = s
