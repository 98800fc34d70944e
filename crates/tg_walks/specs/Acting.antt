-- What can be shared where only some of the vertices act.
use Rattle.std.specs.Prelude.{Bool, ◌||◌, ◌&&◌, ⊤, IsTrue, List, [], ◌∷◌}
use Rattle.std.specs.List.{list_any}
use Rattle.tg_names.specs.declared.right_sets.Right.{Right}
use Rattle.tg_names.specs.declared.right_sets.Rights.{Rights}
use Rattle.tg_graph.specs.declared.rules.Rule.{Rule}
use Rattle.tg_graph.specs.declared.rules.Rule.TheVariants.{Take, Grant, Create, Remove}
use Rattle.tg_names.specs.Names.{Name, same_name}
use Rattle.tg_names.specs.Sets.{member}
use Rattle.tg_graph.specs.Graphs.{ProtectionGraph, has_vertex}
use Rattle.tg_graph.specs.RuleLists.{AllAccepted, after_all}

-- which vertices act
abbrev pub Acts : Type 0
Acts = Name → Bool

-- the vertex that carries out the rule
abbrev pub actor_of : Rule → Name
actor_of (Take x y z s) = x
actor_of (Grant x y z s) = x
actor_of (Create x n s) = x
actor_of (Remove x y s) = x

-- a created vertex acts as well
abbrev pub acts_after : Acts → Rule → Acts
acts_after acts (Take x y z s) v = acts v
acts_after acts (Grant x y z s) v = acts v
acts_after acts (Create x n s) v = acts v || same_name v n
acts_after acts (Remove x y s) v = acts v

-- each rule is carried out by a vertex that acts, or that a rule before it created
abbrev pub AreBy : Acts → List Rule → Type 0
AreBy acts [] = ⊤
AreBy acts (rule ∷ rules) = IsTrue (acts (actor_of rule)) × AreBy (acts_after acts rule) rules

-- some list of rules of those that act gives x the right over y
abbrev pub CanShareBy : ProtectionGraph → Acts → Right → Name → Name → Type 0
CanShareBy g acts right x y = (rules : List Rule) × AllAccepted g rules × AreBy acts rules × IsTrue ((after_all g rules).holds x right y)

-- one list of rules of those that act gives x each right of s over y
abbrev pub CanShareAllBy : ProtectionGraph → Acts → Rights → Name → Name → Type 0
CanShareAllBy g acts s x y = (rules : List Rule) × AllAccepted g rules × AreBy acts rules × ((right : Right) → IsTrue (member s right) → IsTrue ((after_all g rules).holds x right y))

-- x alone, if it acts
abbrev pub alone_in : Acts → Name → Acts
alone_in acts x v = same_name v x && acts v

-- each rule is carried out by a vertex of g that acts
abbrev pub IsBy : ProtectionGraph → Acts → List Rule → Type 0
IsBy g acts [] = ⊤
IsBy g acts (rule ∷ rules) = IsTrue (has_vertex g (actor_of rule)) × IsTrue (acts (actor_of rule)) × IsBy g acts rules

-- the name is one of them
abbrev pub is_among : Name → List Name → Bool
is_among v names = list_any (same_name v) names

-- x and the helpers of these names, as far as they act
abbrev pub with_helpers : Acts → Name → List Name → Acts
with_helpers acts x names v = acts v && (same_name v x || is_among v names)
