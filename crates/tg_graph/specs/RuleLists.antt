-- What lists of rules lead to.
use Rattle.std.specs.Prelude.{◌≡◌, ⊤, IsTrue, List, [], ◌∷◌, None}
use Rattle.tg_names.specs.declared.right_sets.Right.{Right}
use Rattle.tg_names.specs.declared.right_sets.Rights.{Rights}
use Rattle.tg_graph.specs.declared.rules.Rule.{Rule}
use Rattle.tg_names.specs.Sets.{member}
use Rattle.tg_names.specs.Names.{Name}
use Rattle.tg_graph.specs.Graphs.{ProtectionGraph, SameGraph}
use Rattle.tg_graph.specs.Rules.{refusal_of, after}
use Rattle.tg_graph.specs.RuleWords.{IsRule}

-- each is a rule, and accepted in its turn
abbrev pub AllAccepted : ProtectionGraph → List Rule → Type 0
AllAccepted g [] = ⊤
AllAccepted g (rule ∷ rules) = IsRule rule × (refusal_of g rule ≡ None) × AllAccepted (after g rule) rules

-- the graph after them
abbrev pub after_all : ProtectionGraph → List Rule → ProtectionGraph
after_all g [] = g
after_all g (rule ∷ rules) = after_all (after g rule) rules

-- each is accepted in its turn, and the end is h
abbrev pub LeadsTo : ProtectionGraph → List Rule → ProtectionGraph → Type 0
LeadsTo g rules h = AllAccepted g rules × SameGraph (after_all g rules) h

-- some list of rules gives x the right over y
abbrev pub CanShare : ProtectionGraph → Right → Name → Name → Type 0
CanShare g right x y = (rules : List Rule) × AllAccepted g rules × IsTrue ((after_all g rules).holds x right y)

-- one list of rules gives x each right of s over y
abbrev pub CanShareAll : ProtectionGraph → Rights → Name → Name → Type 0
CanShareAll g s x y = (rules : List Rule) × AllAccepted g rules × ((right : Right) → IsTrue (member s right) → IsTrue ((after_all g rules).holds x right y))
