-- What the parts of a policy's report hold.
use Rattle.std.specs.Prelude.{◌≡◌, ◌<◌, ◌≤◌, ◌+◌, ⊤, ℕ, IsTrue, Bool, true, false, List, ◌++◌, bytes_eq, length, position, slice_get, is_some, Option, Some, None, if◌then◌else◌}
use Rattle.std.specs.List.{list_any}
use Rattle.std.specs.Option.{option_map_or}
use Rattle.std.specs.BTreeMap.{get}
use Rattle.tg_names.specs.Names.{Name}
use Rattle.tg_graph.specs.Graphs.{ProtectionGraph, has_vertex}
use Rattle.tg_text.specs.Canonical.{name_cmp, in_name_order}
use Rattle.tg_analysis.specs.declared.cases.Case.{Case}
use Rattle.tg_analysis.specs.Cases.{is_marked}
use Rattle.tg_graph.specs.RuleLists.{CanShare}
use Rattle.tg_text.specs.declared.policy_text.Operand.{Operand}
use Rattle.tg_text.specs.declared.policy_text.Operand.TheVariants as operand
use Rattle.tg_text.specs.declared.policy_text.Claim.{Claim}
use Rattle.tg_text.specs.declared.policy_text.Claim.TheVariants as claim
use Rattle.tg_text.specs.PolicyText.{PolicyLineOf}
use Rattle.tg_policies.specs.declared.groups.Groups.{Groups}
use Rattle.tg_policies.specs.declared.verdicts.Verdicts.{Verdicts}
use Rattle.tg_policies.specs.Policies.{Membership, no_members, members_behind, Finding, IsFinding, AreFindings, verdict_line, told_of_all, broken_count}

-- ---- places and marks
-- whether the place of a name is marked
abbrev pub is_marked_name : List Name → List Bool → Name → Bool
is_marked_name names marks v = option_map_or (λ place. is_marked marks place) (position (bytes_eq v) names) false

-- the places rise
abbrev pub AreRisingPlaces : List ℕ → Type 0
AreRisingPlaces places = (i k a b : ℕ) → i < k → slice_get places i ≡ Some a → slice_get places k ≡ Some b → a < b

-- those of the first so many places that are marked, in rising order
pub record AreMarked (marks : List Bool) (count : ℕ) (places : List ℕ) : Type 0 where
  pub within : (i place : ℕ) → slice_get places i ≡ Some place → (place < count) × (is_marked marks place ≡ true)
  pub all : (place : ℕ) → place < count → is_marked marks place ≡ true → (i : ℕ) × (slice_get places i ≡ Some place)
  pub rising : AreRisingPlaces places

-- the vertex that an operand names is one of the names
abbrev pub IsNamed : List Name → Operand → Type 0
IsNamed names (operand.Vertex v) = IsTrue (list_any (bytes_eq v) names)
IsNamed names (operand.Group n) = ⊤

-- who is in which group: those whose places are marked
abbrev pub membership : List Name → Groups → Membership
membership names groups n v = option_map_or (λ marks. is_marked_name names marks.items v) (get name_cmp groups.members n) false

-- the same in a graph, whose vertices have their places in name order
abbrev pub members_in : ProtectionGraph → Groups → Membership
members_in g groups = membership (in_name_order g.vertices) groups

-- the vertices that a case names are there
abbrev pub NamesVertices : ProtectionGraph → Option Case → Type 0
NamesVertices g None = ⊤
NamesVertices g (Some b) = (has_vertex g b.x ≡ true) × (has_vertex g b.y ≡ true)

-- where a line says who can't come to have a right, x can come to have the right that breaks it
abbrev pub IsShared : ProtectionGraph → Claim → Option Case → Type 0
IsShared g (claim.Never s) (Some b) = CanShare g b.right b.x b.y
IsShared g (claim.Only s) (Some b) = CanShare g b.right b.x b.y
IsShared g says verdict = ⊤

-- what is found of a line that states something is told, by those who are in the groups
pub record IsToldOf (why : Bool) (g : ProtectionGraph) (line : PolicyLineOf) (old new : Verdicts) : Type 0 where
  pub found : Finding
  pub finding : IsFinding why g (members_in g old.groups) line found
  pub text : new.text.items ≡ old.text.items ++ (verdict_line line.line found.verdict ++ found.why)
  pub broken : new.broken ≡ old.broken + (if is_some found.verdict then 1 else 0)
  pub groups : new.groups ≡ old.groups

-- these lines have been told
pub record HasTold (why : Bool) (g : ProtectionGraph) (lines : List PolicyLineOf) (verdicts : Verdicts) : Type 0 where
  pub found : List Finding
  pub are : AreFindings why g no_members lines found
  pub text : verdicts.text.items ≡ told_of_all lines found
  pub broken : verdicts.broken ≡ broken_count found
  pub few : verdicts.broken ≤ length lines
  pub groups : (n v : Name) → members_in g verdicts.groups n v ≡ members_behind no_members lines n v
