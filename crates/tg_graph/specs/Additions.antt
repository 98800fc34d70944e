-- What the calls that build a graph do, and what a list of rules does.
use Rattle.std.specs.Prelude.{◌≡◌, ℕ, true, false, ◌&&◌, not, if◌then◌else◌, List, [], ◌∷◌, take, slice_get, All, Option, Some, None, Result, Ok, Err}
use Rattle.tg_names.specs.declared.right_sets.Rights.{Rights}
use Rattle.tg_graph.specs.declared.protection.VertexFault.{VertexFault}
use Rattle.tg_graph.specs.declared.protection.VertexFault.TheVariants.{Taken, Memory}
use Rattle.tg_graph.specs.declared.protection.EdgeFault.{EdgeFault}
use Rattle.tg_graph.specs.declared.protection.EdgeFault.TheVariants as edge
use Rattle.tg_graph.specs.declared.rules.Rule.{Rule}
use Rattle.tg_graph.specs.declared.rules.RuleFault.{RuleFault}
use Rattle.tg_names.specs.Sets.{rights_where, is_empty_set, IsNamed}
use Rattle.tg_names.specs.Names.{Name}
use Rattle.tg_graph.specs.Graphs.{ProtectionGraph, has_vertex}
use Rattle.tg_graph.specs.Rules.{with_vertex, with_rights, refusal_of, after, rights_of, Applies}

-- an outcome of `add_vertex`
abbrev pub AddsVertex : ProtectionGraph → Name → Result (Unit {0}) VertexFault → ProtectionGraph → Type 0
AddsVertex g n (Ok _) h = (has_vertex g n ≡ false) × (h ≡ with_vertex g n)
AddsVertex g n (Err Taken) h = has_vertex g n ≡ true
AddsVertex g n (Err Memory) h = has_vertex g n ≡ false

-- the rights of x over y
abbrev pub label_between : ProtectionGraph → Name → Name → Rights
label_between g x y = rights_where (λ right. g.holds x right y)

-- the label of the edge from x to y, if both are vertices
abbrev pub label_at : ProtectionGraph → Name → Name → Option Rights
label_at g x y = if has_vertex g x && has_vertex g y then Some (label_between g x y) else None

-- why no edge is added, but for want of memory
abbrev pub edge_fault_of : ProtectionGraph → Name → Name → Rights → Option EdgeFault
edge_fault_of g x y s =
    if not (has_vertex g x) then Some (edge.Unknown x)
    else (if not (has_vertex g y) then Some (edge.Unknown y)
    else (if not (is_empty_set (label_between g x y)) then Some edge.EdgeThere
    else (if is_empty_set s then Some edge.Empty else None)))

-- an outcome of `add_edge`
abbrev pub AddsEdge : ProtectionGraph → Name → Name → Rights → Result (Unit {0}) EdgeFault → ProtectionGraph → Type 0
AddsEdge g x y s (Ok _) h = (edge_fault_of g x y s ≡ None) × (h ≡ with_rights g x y s)
AddsEdge g x y s (Err edge.Memory) h = edge_fault_of g x y s ≡ None
AddsEdge g x y s (Err edge.EdgeThere) h = edge_fault_of g x y s ≡ Some edge.EdgeThere
AddsEdge g x y s (Err edge.Empty) h = edge_fault_of g x y s ≡ Some edge.Empty
AddsEdge g x y s (Err (edge.Unknown v)) h = edge_fault_of g x y s ≡ Some (edge.Unknown v)

-- each rule is accepted in its turn, and the end is h
abbrev pub Leads : ProtectionGraph → List Rule → ProtectionGraph → Type 0
Leads g [] h = h ≡ g
Leads g (rule ∷ rules) h = (refusal_of g rule ≡ None) × Leads (after g rule) rules h

-- an outcome of `run`: all rules are carried out, or the first ones up to one that is not
abbrev pub Runs : ProtectionGraph → List Rule → Result (Unit {0}) (ℕ × RuleFault) → ProtectionGraph → Type 0
Runs g rules (Ok _) h = Leads g rules h
Runs g rules (Err (i, fault)) h = Leads g (take i rules) h × ((rule : Rule) × (slice_get rules i ≡ Some rule) × Applies h rule (Err fault) h)

abbrev pub AreNamed : List Rule → Type 0
AreNamed rules = All (λ rule. IsNamed (rights_of rule)) rules
