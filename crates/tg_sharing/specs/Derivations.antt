-- Lists of rules that carry a right from a vertex to another.
use Rattle.std.specs.Prelude.{◌≡◌, ℕ, ◌+◌, ◌*◌, ◌-◌, ◌<◌, ◌≤◌, IsTrue, if◌then◌else◌, List, [], ◌∷◌, ◌++◌, length, Option, Some, None}
use Rattle.std.specs.List.{list_any}
use Rattle.tg_names.specs.declared.right_sets.Right.{Right}
use Rattle.tg_names.specs.declared.right_sets.Right.TheVariants.{T, G}
use Rattle.tg_graph.specs.declared.rules.Rule.{Rule}
use Rattle.tg_graph.specs.declared.rules.Rule.TheVariants.{Take, Grant, Create}
use Rattle.tg_names.specs.Names.{helper_name, Name, same_name}
use Rattle.tg_graph.specs.Limits.{most_vertices}
use Rattle.tg_graph.specs.Graphs.{ProtectionGraph, has_vertex}
use Rattle.tg_graph.specs.RuleLists.{AllAccepted, after_all}
use Rattle.tg_islands.specs.Sharing.{IsChain, NoRepeat}
use Rattle.tg_islands.specs.Moves.{only, take_and_grant, Extends, IsMove, AreMoves, IsShortest}

-- the one rule by which p gets q's right over y, if p has take over q, or q has grant over p
abbrev pub direct_rule : ProtectionGraph → Right → Name → Name → Name → Option Rule
direct_rule g right y p q =
    if g.holds p T q then Some (Take p q y (only right))
    else (if g.holds q G p then Some (Grant q p y (only right)) else None)

-- q gets grant over the helper that p has made: p grants it, or q takes it
abbrev pub rule_for_helper : ProtectionGraph → Name → Name → Name → Rule
rule_for_helper g p q helper = if g.holds p G q then Grant p q helper (only G) else Take q p helper (only G)

-- the rules by which p gets q's right over y through a new vertex
abbrev pub helper_rules : ProtectionGraph → Right → Name → Name → Name → Name → List Rule
helper_rules g right y p q helper =
    Create p helper take_and_grant
    ∷ rule_for_helper g p q helper
    ∷ Grant q helper y (only right)
    ∷ Take p helper y (only right)
    ∷ []

-- the rules so far take nothing away; each helper that they make has a number below `next`, and the names of these numbers are in use
pub record IsSoFar (g : ProtectionGraph) (rules : List Rule) (next : ℕ) : Type 0 where
  pub made : List Name
  pub extends : Extends g rules made
  pub helpers : (v : Name) → IsTrue (list_any (same_name v) made) → (k : ℕ) × (k < next) × (v ≡ helper_name k)
  pub used : (k : ℕ) → k < next → IsTrue (has_vertex (after_all g rules) (helper_name k))

-- after the rules so far q has the right over y
pub record IsUnderway (g : ProtectionGraph) (right : Right) (y q : Name) (rules : List Rule) (next : ℕ) : Type 0 where
  pub so_far : IsSoFar g rules next
  pub gives : IsTrue ((after_all g rules).holds q right y)

-- what holds after the old rules holds after the new ones
abbrev pub TakesNothing : ProtectionGraph → List Rule → List Rule → Type 0
TakesNothing g old new = (u : Name) (right : Right) (v : Name) → IsTrue ((after_all g old).holds u right v) → IsTrue ((after_all g new).holds u right v)

-- the right over y goes on from q to p by one move
pub record GoesOn (g : ProtectionGraph) (right : Right) (y p q : Name) (old new : List Rule) (next last : ℕ) : Type 0 where
  pub underway : IsUnderway g right y p new last
  pub kept : TakesNothing g old new
  pub move : List Rule
  pub is_move : IsMove g (after_all g old) right y p q move
  pub is : new ≡ old ++ move
  pub few : length new ≤ length old + 4
  pub low : last ≤ next + most_vertices + 1

-- the last of the vertices
abbrev pub end_of : Name → List Name → Name
end_of u [] = u
end_of u (w ∷ ws) = end_of w ws

-- the right over y has come from the holder over the links
pub record IsCarried (g : ProtectionGraph) (right : Right) (y holder : Name) (links : List Name) (old new : List Rule) (next last : ℕ) : Type 0 where
  pub underway : IsUnderway g right y (end_of holder links) new last
  pub kept : TakesNothing g old new
  pub part : List Rule
  pub moves : AreMoves g (after_all g old) right y holder links part
  pub is : new ≡ old ++ part
  pub few : length part ≤ 4 * length links
  pub low : last ≤ next + (most_vertices + 1) * length links

-- from the graph `now` on, the moves along a shortest chain to x from a vertex that held the right over y in the opening graph g, at most four for each link; none if x held it
pub record IsPart (g now : ProtectionGraph) (right : Right) (x y : Name) (rules : List Rule) : Type 0 where
  pub holder : Name
  pub chain : List Name
  pub held : IsTrue (g.holds holder right y)
  pub joined : IsChain g holder chain x
  pub apart : NoRepeat (holder ∷ chain)
  pub shortest : IsShortest g right x y chain
  pub moves : AreMoves g now right y holder chain rules
  pub few : length rules ≤ 4 * length chain
  pub none : IsTrue (g.holds x right y) → rules ≡ []

-- accepted rules that give x the right over y, and are the part of this right from the opening graph on
pub record IsDerivation (g : ProtectionGraph) (right : Right) (x y : Name) (rules : List Rule) : Type 0 where
  pub accepted : AllAccepted g rules
  pub gives : IsTrue ((after_all g rules).holds x right y)
  pub part : IsPart g g right x y rules

-- four rules for each vertex but one are enough for a derivation
abbrev pub DerivationsAreShort : Type 0
DerivationsAreShort = (g : ProtectionGraph) (right : Right) (x y : Name) (rules : List Rule) → IsDerivation g right x y rules → length rules ≤ 4 * (length g.vertices - 1)
