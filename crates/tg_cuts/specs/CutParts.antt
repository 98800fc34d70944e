-- What the parts of a least cut's making bring: the edges of a network, the two sides of a cut, and what each edge loses.
use Rattle.std.specs.Prelude.{◌≡◌, ◌⊎◌, ◌<◌, ℕ, Bool, true, false, ◌&&◌, ◌||◌, not, nat_lt, if◌then◌else◌, List, [], ◌∷◌, ◌++◌, length, slice_get, slice_index_or, bytes_eq, position, Option, Some, None}
use Rattle.std.specs.List.{list_any, AllByRecursion}
use Rattle.std.specs.List.Sorted.{IsStrictlySortedBy}
use Rattle.std.specs.Option.{option_map_or}
use Rattle.std.specs.Ordering.{nat_cmp}
use Rattle.std.specs.Cmp.Lexicographic.{slice_cmp}
use Rattle.std.specs.Map.{keys_of}
use Rattle.tg_flow.specs.declared.edges.FlowEdge.{FlowEdge}
use Rattle.tg_flow.specs.declared.edges.Role.{Role}
use Rattle.tg_flow.specs.declared.edges.Role.TheVariants.{Link, End, Both}
use Rattle.tg_flow.specs.Edges.{flow_at_first}
use Rattle.tg_flow.specs.Flows.{SameBut}
use Rattle.tg_flow.specs.Courses.{is_in}
use Rattle.tg_flow.specs.Filling.{IsEndless, IsFull}
use Rattle.tg_flow.specs.Sides.{AreNear, AreBeyond}
use Rattle.tg_names.specs.declared.right_sets.Right.{Right}
use Rattle.tg_names.specs.declared.right_sets.Right.TheVariants.{T, G}
use Rattle.tg_names.specs.declared.right_sets.Rights.{Rights}
use Rattle.tg_graph.specs.declared.rules.Rule.{Rule}
use Rattle.tg_graph.specs.declared.rules.Rule.TheVariants.{Take, Grant, Create, Remove}
use Rattle.tg_graph.specs.declared.ends.Wanted.TheVariants.{All}
use Rattle.tg_names.specs.Sets.{member, is_empty_set, IsNamed}
use Rattle.tg_graph.specs.Ends.{end_of}
use Rattle.tg_rows.specs.Rows.{Entries, row_number}
use Rattle.tg_names.specs.Names.{Name, same_name}
use Rattle.tg_graph.specs.Graphs.{ProtectionGraph}
use Rattle.tg_cuts.specs.declared.kept.Ends.{Ends}
use Rattle.tg_islands.specs.declared.questions.AskFault.{AskFault}
use Rattle.tg_islands.specs.declared.questions.AskFault.TheVariants.{Unknown}
use Rattle.tg_islands.specs.Linked.{IsBefore}
use Rattle.tg_islands.specs.Moves.{only, take_and_grant}
use Rattle.tg_cuts.specs.Cuts.{is_one_of, AreInOrder, edges_of, unknown_end_or}

-- ---- the ends of kept edges
-- both ends of the edge are vertices: what comes later decides
abbrev pub KnowsEnds : ProtectionGraph → Ends → Type 0
KnowsEnds g e = (later : Option AskFault) (more : List Ends) → unknown_end_or g (e ∷ more) later ≡ unknown_end_or g more later

-- those of all edges are
abbrev pub KnowsAllEnds : ProtectionGraph → List Ends → Type 0
KnowsAllEnds g edges = (later : Option AskFault) → unknown_end_or g edges later ≡ later

-- the fault is the first of the ends that is no vertex
pub record IsUnknownEnd (g : ProtectionGraph) (edges : List Ends) (fault : AskFault) : Type 0 where
  pub end : Name
  pub is : fault ≡ Unknown end
  pub first : (later : Option AskFault) → unknown_end_or g edges later ≡ Some (Unknown end)

-- it is one of the ends of the first edge
abbrev pub IsUnknownEndOf : ProtectionGraph → Ends → AskFault → Type 0
IsUnknownEndOf g e fault = (more : List Ends) → IsUnknownEnd g (e ∷ more) fault

-- ---- the edges of a network
-- what an edge can serve as: a link by take or grant; a way to the end by the right, where it leads to y; or both
abbrev pub role_by : Bool → Bool → Option Role
role_by false false = None
role_by true false = Some Link
role_by false true = Some End
role_by true true = Some Both

-- an edge to v with the label
abbrev pub label_role : Right → Name → Name → Rights → Option Role
label_role right y v label = role_by (member label T || member label G) (same_name v y && member label right)

-- the name of the vertex at a position
abbrev pub name_at : Entries → ℕ → Name
name_at es a = slice_index_or (keys_of es) a []

-- what stands at a place of the row of a is an edge to b, with a role
pub record HasRole (es : Entries) (right : Right) (y : Name) (a place b : ℕ) (serves : Role) : Type 0 where
  pub label : Rights
  pub read : end_of es a place All ≡ Some (b, label)
  pub role : label_role right y (name_at es b) label ≡ Some serves

-- an edge of the network is one of those in front of the place, with its role; it carries nothing yet, or is kept
pub record IsListed (es : Entries) (right : Right) (y : Name) (kept : List Ends) (position here : ℕ) (e : FlowEdge) : Type 0 where
  pub place : ℕ
  pub before : IsBefore e.source place position here
  pub has_role : HasRole es right y e.source place e.target e.role
  pub carries : e.flow ≡ flow_at_first (is_one_of kept (name_at es e.source) (name_at es e.target))

-- each edge in front of the place that has a role is listed, once
pub record EdgesUpTo (es : Entries) (right : Right) (y : Name) (kept : List Ends) (position here : ℕ) (edges : List FlowEdge) : Type 0 where
  pub from : (k : ℕ) (e : FlowEdge) → slice_get edges k ≡ Some e → IsListed es right y kept position here e
  pub there : (a place b : ℕ) (role : Role) → IsBefore a place position here → HasRole es right y a place b role → (k : ℕ) × (e : FlowEdge) × (slice_get edges k ≡ Some e) × (e.source ≡ a) × (e.target ≡ b)
  pub apart : (j k : ℕ) (e f : FlowEdge) → slice_get edges j ≡ Some e → slice_get edges k ≡ Some f → e.source ≡ f.source → e.target ≡ f.target → j ≡ k

-- the edges of the graph, before a unit has gone
abbrev pub AreFlowEdges : Entries → Right → Name → List Ends → List FlowEdge → Type 0
AreFlowEdges es right y kept edges = EdgesUpTo es right y kept (length (keys_of es)) 0 edges

-- the same, whatever units have gone
pub record AreCarried (es : Entries) (right : Right) (y : Name) (kept : List Ends) (edges : List FlowEdge) : Type 0 where
  pub first : List FlowEdge
  pub listed : AreFlowEdges es right y kept first
  pub same : SameBut first edges

-- ---- the sides of a cut
-- any number of units can go from x, because the kept edges lead to the end
pub record AreEndless (es : Entries) (right : Right) (y : Name) (kept : List Ends) (x : ℕ) : Type 0 where
  pub edges : List FlowEdge
  pub carried : AreCarried es right y kept edges
  pub endless : IsEndless edges x

-- no more units can go from x; and those who come to the right over y, which stands at j, without the ones near x. Where the right is itself a link and y is near, nobody holds the right beyond but by a link to y, which goes.
pub record AreSides (es : Entries) (right : Right) (y : Name) (kept : List Ends) (x j : ℕ) (others : ℕ → Bool) : Type 0 where
  pub edges : List FlowEdge
  pub units : ℕ
  pub near : ℕ → Bool
  pub carried : AreCarried es right y kept edges
  pub full : IsFull edges x units
  pub are_near : AreNear edges x near
  pub are_beyond : AreBeyond edges (not (member take_and_grant right && near j)) near others

-- ---- what an edge loses
-- whether one of the two is true, and the other is not
abbrev pub differ : Bool → Bool → Bool
differ a b = (a && not b) || (b && not a)

-- By whether the source of an edge and its target are to be free of the right over y, and whether the target is y: whether it has to lose a right. That is the right itself from a free one, and take and grant between a free one and another.
abbrev pub is_lost_by : Right → Bool → Bool → Bool → Right → Bool
is_lost_by right from_free to_free to_y lost = (from_free && to_y && member (only right) lost) || (differ from_free to_free && member take_and_grant lost)

abbrev pub is_lost : Right → Name → (Name → Bool) → Name → Name → Right → Bool
is_lost right y free u v lost = is_lost_by right (free u) (free v) (same_name v y) lost

-- the rights that it loses of its label
pub record IsLoss (right : Right) (from_free to_free to_y : Bool) (label loss : Rights) : Type 0 where
  pub named : IsNamed loss
  pub members : (lost : Right) → member loss lost ≡ (member label lost && is_lost_by right from_free to_free to_y lost)

-- whoever is not among the marked ones
abbrev pub free_of : Entries → List Bool → Name → Bool
free_of es marks v = option_map_or (λ p. not (is_in marks p)) (position (bytes_eq v) (keys_of es)) true

-- the rule takes from the edge at the place of the row of u, which stands at a, what it has to lose
pub record TakesAt (es : Entries) (right : Right) (y : Name) (free : Name → Bool) (u : Name) (a place : ℕ) (rule : Rule) : Type 0 where
  pub target : Name
  pub label : Rights
  pub loss : Rights
  pub read : slice_get (row_number es a) place ≡ Some (target, label)
  pub is_loss : IsLoss right (free u) (free target) (same_name target y) label loss
  pub some : is_empty_set loss ≡ false
  pub is : rule ≡ Remove u target loss

-- that edge has nothing to lose
abbrev pub TakesNone : Entries → Right → Name → (Name → Bool) → Name → ℕ → ℕ → Type 0
TakesNone es right y free u a place = (v : Name) (label : Rights) (lost : Right) → slice_get (row_number es a) place ≡ Some (v, label) → (member label lost && is_lost right y free u v lost) ≡ false

-- its rule is put behind the others, if it has to lose something
abbrev pub AddsLoss : Entries → Right → Name → (Name → Bool) → Name → ℕ → ℕ → List Rule → List Rule → Type 0
AddsLoss es right y free u a place old new = (TakesNone es right y free u a place × (new ≡ old)) ⊎ ((rule : Rule) × TakesAt es right y free u a place rule × (new ≡ old ++ rule ∷ []))

-- whether the rule takes the right of u over v
abbrev pub takes : Rule → Name → Right → Name → Bool
takes (Take x y z s) u right v = false
takes (Grant x y z s) u right v = false
takes (Create x n s) u right v = false
takes (Remove x y s) u right v = same_name u x && same_name v y && member s right

-- whether one of the rules does
abbrev pub are_taken : List Rule → Name → Right → Name → Bool
are_taken rules u right v = list_any (λ (rule : Rule). takes rule u right v) rules

-- the rules for what the first so many edges out of u lose
pub record RowRules (es : Entries) (right : Right) (y : Name) (free : Name → Bool) (u : Name) (a count : ℕ) (rules : List Rule) : Type 0 where
  pub each : AllByRecursion (λ (rule : Rule). (place : ℕ) × (place < count) × TakesAt es right y free u a place rule) rules
  pub all : (place : ℕ) (v : Name) (label : Rights) (lost : Right) → place < count → slice_get (row_number es a) place ≡ Some (v, label) → (member label lost && is_lost right y free u v lost) ≡ true → are_taken rules u lost v ≡ true
  pub order : AreInOrder (edges_of rules)

-- they are put behind those that were there
pub record AddsRules (es : Entries) (right : Right) (y : Name) (free : Name → Bool) (u : Name) (a count : ℕ) (old new : List Rule) : Type 0 where
  pub more : List Rule
  pub is : new ≡ old ++ more
  pub rules : RowRules es right y free u a count more

-- whether edges go out of the vertex at a position
abbrev pub has_edges : Entries → ℕ → Bool
has_edges es a = nat_lt 0 (length (row_number es a))

-- the name is that of the vertex at a position, where edges go out of it
abbrev pub IsSourceAt : Entries → ℕ → Option Name → Type 0
IsSourceAt es a found = found ≡ (if has_edges es a then slice_get (keys_of es) a else None)

-- the names of the vertices that edges go out of, in their order
pub record AreSources (es : Entries) (names : List Name) : Type 0 where
  pub sorted : IsStrictlySortedBy (slice_cmp nat_cmp) names
  pub known : (v : Name) → list_any (same_name v) names ≡ true → list_any (same_name v) (keys_of es) ≡ true
  pub among : (a : ℕ) (v : Name) → slice_get (keys_of es) a ≡ Some v → list_any (same_name v) names ≡ has_edges es a

-- a rule takes from an edge all that it has to lose, and that is something
pub record IsLossRule (g : ProtectionGraph) (right : Right) (y : Name) (free : Name → Bool) (rule : Rule) : Type 0 where
  pub source : Name
  pub target : Name
  pub rights : Rights
  pub is : rule ≡ Remove source target rights
  pub some : is_empty_set rights ≡ false
  pub named : IsNamed rights
  pub members : (lost : Right) → member rights lost ≡ (g.holds source lost target && is_lost right y free source target lost)

-- such a rule for each edge that has something to lose, in order
pub record AreLosses (g : ProtectionGraph) (right : Right) (y : Name) (free : Name → Bool) (rules : List Rule) : Type 0 where
  pub each : AllByRecursion (IsLossRule g right y free) rules
  pub all : (u : Name) (lost : Right) (v : Name) → (g.holds u lost v && is_lost right y free u v lost) ≡ true → are_taken rules u lost v ≡ true
  pub order : AreInOrder (edges_of rules)
