-- What the definitions come to. Each law is the contract of a function of this crate.
use Rattle.std.specs.Prelude.{◌≡◌, ◌≢◌, ℕ, ◌↔◌, List, slice_get, Some, None, Result, MatchResult}
use Rattle.std.specs.Map.{keys_of, lookup}
use Rattle.tg_graph.specs.declared.rules.Rule.{Rule}
use Rattle.tg_graph.specs.declared.rules.RuleFault.{RuleFault}
use Rattle.tg_graph.specs.declared.rules.RuleFault.TheVariants.{Memory}
use Rattle.tg_names.specs.Names.{Name, same_name}
use Rattle.tg_graph.specs.Graphs.{ProtectionGraph, SameGraph}
use Rattle.tg_graph.specs.GraphOf.{graph_of}
use Rattle.tg_graph.specs.Rules.{refusal_of, after, rights_of}
use Rattle.tg_graph.specs.RuleLists.{AllAccepted, after_all}
use Rattle.tg_graph.specs.Additions.{Leads, Runs, AreNamed}
use Rattle.tg_rows.specs.Rows.{Entries, IsGraph, row_number}
use Rattle.tg_graph_laws.specs.RowsOf.{IsRowOf}
use Rattle.tg_graph.specs.declared.rules.Refusal.{Refusal}
use Rattle.tg_graph.specs.declared.rules.Refusal.TheVariants.{Full}
use Rattle.tg_names.specs.Sets.{IsNamed}
use Rattle.tg_graph_laws.specs.RefusalOrder.{RefusalHolds, IsLeastRefusal}

-- graphs with the same vertices and triples refuse alike
abbrev pub SameRefusal : Type 0
SameRefusal = (g h : ProtectionGraph) → SameGraph g h → (rule : Rule) → refusal_of g rule ≡ refusal_of h rule

-- and stay the same after a rule
abbrev pub SameAfter : Type 0
SameAfter = (g h : ProtectionGraph) → SameGraph g h → (rule : Rule) → SameGraph (after g rule) (after h rule)

-- the row of the vertex at a position is the one that vertices and triples give
abbrev pub RowsOfGraph : Type 0
RowsOfGraph = (entries : Entries) → IsGraph entries → (position : ℕ) (u : Name) → slice_get (keys_of entries) position ≡ Some u → IsRowOf (graph_of entries) u (row_number entries position)

-- graphs with the same vertices and triples have the same row at each name
abbrev pub SameRows : Type 0
SameRows = (one other : Entries) → IsGraph one → IsGraph other → SameGraph (graph_of one) (graph_of other) → (u : Name) → lookup (same_name u) one ≡ lookup (same_name u) other

-- rules that are accepted in turn lead to the graph after them
abbrev pub AcceptedLead : Type 0
AcceptedLead = (g : ProtectionGraph) (rules : List Rule) → AllAccepted g rules → Leads g rules (after_all g rules)

-- they may be given to `run`
abbrev pub AcceptedAreNamed : Type 0
AcceptedAreNamed = (g : ProtectionGraph) (rules : List Rule) → AllAccepted g rules → AreNamed rules

-- which then carries out all of them, unless there is no memory
abbrev pub AcceptedRun : Type 0
AcceptedRun = (g : ProtectionGraph) (rules : List Rule) (result : Result (Unit {0}) (ℕ × RuleFault)) (h : ProtectionGraph) → AllAccepted g rules → Runs g rules result h → MatchResult result (λ _. h ≡ after_all g rules) (λ fault. fault.1 ≡ Memory)

-- a rule is refused for the first reason that applies to it
abbrev pub LeastRefusal : Type 0
LeastRefusal = (g : ProtectionGraph) (rule : Rule) → IsNamed (rights_of rule) → (refusal : Refusal) → (refusal_of g rule ≡ Some refusal) ↔ IsLeastRefusal g rule refusal

-- it is accepted exactly where none applies
abbrev pub AcceptedWhereNone : Type 0
AcceptedWhereNone = (g : ProtectionGraph) (rule : Rule) → IsNamed (rights_of rule) → (refusal_of g rule ≡ None) ↔ ((refusal : Refusal) → ¬ RefusalHolds g rule refusal)

-- that there are too many vertices is never a graph's answer
abbrev pub NeverFull : Type 0
NeverFull = (g : ProtectionGraph) (rule : Rule) → refusal_of g rule ≢ Some Full
