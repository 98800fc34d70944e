-- The laws of what can be shared where only some of the vertices act.
use Rattle.std.specs.Prelude.{IsFalse, ⊤, ◌≡◌, ℕ, ◌+◌, ◌^◌, ◌<◌, ◌≤◌, ◌*◌, length, ◌↔◌, ◌⊎◌, List, [], ◌∷◌, Bool, true, IsTrue}
use Rattle.std.specs.List.{list_any}
use Rattle.tg_names.specs.declared.right_sets.Right.{Right}
use Rattle.tg_names.specs.declared.right_sets.Rights.{Rights}
use Rattle.tg_names.specs.Names.{Name, same_name}
use Rattle.tg_names.specs.Sets.{member}
use Rattle.tg_names.specs.declared.right_sets.Right.TheVariants.{T, G}
use Rattle.tg_graph.specs.declared.rules.Rule.{Rule}
use Rattle.tg_graph.specs.Graphs.{ProtectionGraph, has_vertex, WellFormed}
use Rattle.tg_graph.specs.RuleLists.{AllAccepted, after_all, CanShare, LeadsTo}
use Rattle.tg_islands.specs.Sharing.{NoRepeat}
use Rattle.tg_walks.specs.Acting.{Acts, AreBy, IsBy, CanShareBy, CanShareAllBy, alone_in, is_among, with_helpers}
use Rattle.tg_walks.specs.Walks.{Stand, same_stand, Ahead, Behind, IsAsked, IsStep, IsStart, IsWalk, asked_on, Reaches, Leads, HeldAlong}

-- where more act, no less can be shared
abbrev pub MoreAct : Type 0
MoreAct = (g : ProtectionGraph) (acts more : Acts) (right : Right) (x y : Name) → ((v : Name) → IsTrue (acts v) → IsTrue (more v)) → CanShareBy g acts right x y → CanShareBy g more right x y

-- where all act, what can be shared is what can be shared at all
abbrev pub AllAct : Type 0
AllAct = (g : ProtectionGraph) (right : Right) (x y : Name) → CanShareBy g (λ v. true) right x y ↔ CanShare g right x y

-- where a list of rules of those that act leads to h, x has no right over y there that it does not hold along walks; of a graph of any size
abbrev pub NothingElseBy : Type 0
NothingElseBy = (g h : ProtectionGraph) (acts : Acts) (rules : List Rule) (right : Right) (x y : Name) → WellFormed g → IsTrue (has_vertex g x) → IsTrue (has_vertex g y) → LeadsTo g rules h → AreBy acts rules → IsTrue (h.holds x right y) → HeldAlong g acts right x y

-- the vertices from u on, each of which takes from the next, and the last is v
abbrev pub TakesAlong : ProtectionGraph → Name → List Name → Name → Type 0
TakesAlong g u [] v = u ≡ v
TakesAlong g u (w ∷ ws) v = IsTrue (g.holds u T w) × TakesAlong g w ws v

-- where x alone acts, it comes to what it holds and to what it finds along takes
abbrev pub AloneTakes : Type 0
AloneTakes = (g : ProtectionGraph) (acts : Acts) (right : Right) (x y : Name) → IsTrue (has_vertex g x) → HeldAlong g (alone_in acts x) right x y ↔ (IsTrue (g.holds x right y) ⊎ ((s : Name) × (path : List Name) × IsTrue (acts x) × TakesAlong g x path s × IsTrue (g.holds s right y)))

-- where some act, a right can be shared exactly where it is held along walks
abbrev pub SharedByExactly : Type 0
SharedByExactly = (g : ProtectionGraph) (acts : Acts) (right : Right) (x y : Name) → WellFormed g → length g.vertices < 2 ^ 64 → IsTrue (has_vertex g x) → IsTrue (has_vertex g y) → CanShareBy g acts right x y ↔ HeldAlong g acts right x y

-- four rules for each vertex are enough, and no created vertex need act
abbrev pub FewRulesBy : Type 0
FewRulesBy = (g : ProtectionGraph) (acts : Acts) (right : Right) (x y : Name) → WellFormed g → length g.vertices < 2 ^ 64 → IsTrue (has_vertex g y) → HeldAlong g acts right x y → (rules : List Rule) × AllAccepted g rules × IsBy g acts rules × IsTrue ((after_all g rules).holds x right y) × (length rules ≤ 4 * length g.vertices)

-- the rights of a set can be shared together exactly where each can be alone
abbrev pub TogetherAsAloneBy : Type 0
TogetherAsAloneBy = (g : ProtectionGraph) (acts : Acts) (s : Rights) (x y : Name) → WellFormed g → length g.vertices < 2 ^ 64 → IsTrue (has_vertex g x) → IsTrue (has_vertex g y) → CanShareAllBy g acts s x y ↔ ((right : Right) → IsTrue (member s right) → HeldAlong g acts right x y)

-- a set of stands with x's starts that each step leads on in has all that x's walks lead to
abbrev pub FloodHasWalks : Type 0
FloodHasWalks = (g : ProtectionGraph) (acts : Acts) (met : Stand → Bool) (x : Name) (q : Stand) → ((p : Stand) → IsStart g acts x p → IsTrue (met p)) → ((p s : Stand) → IsTrue (met p) → IsStep g acts p s → IsTrue (met s)) → Leads g acts x q → IsTrue (met q)

-- x's walks lead ahead of s exactly where walks from behind s lead behind x, which acts, or ahead of one that has grant over x
abbrev pub LedFromBehind : Type 0
LedFromBehind = (g : ProtectionGraph) (acts : Acts) (x s : Name) → Leads g acts x (Ahead s) ↔ ((IsAsked g acts x x × Reaches g acts (Behind s) (Behind x)) ⊎ ((a : Name) × IsTrue (g.holds a G x) × Reaches g acts (Behind s) (Ahead a)))

-- stands that are met from x's starts, each with how many are asked at most: only a step that asks another than x counts
pub record AreLevels (g : ProtectionGraph) (acts : Acts) (x : Name) (met : Stand → Bool) (level : Stand → ℕ) : Type 0 where
  pub start : (p : Stand) → IsStart g acts x p → IsTrue (met p) × (level p ≤ 0)
  pub free : (p s : Stand) → IsTrue (met p) → IsStep g (alone_in acts x) p s → IsTrue (met s) × (level s ≤ level p)
  pub asked : (p s : Stand) → IsTrue (met p) → IsStep g acts p s → IsTrue (met s) × (level s ≤ level p + 1)

-- where a right can be shared with the help of some, a holder has a level of no more than these
abbrev pub FewerDoNot : Type 0
FewerDoNot = (g : ProtectionGraph) (acts : Acts) (met : Stand → Bool) (level : Stand → ℕ) (right : Right) (x y : Name) (names : List Name) → WellFormed g → IsTrue (has_vertex g x) → IsTrue (has_vertex g y) → AreLevels g acts x met level → CanShareBy g (with_helpers acts x names) right x y
    → IsTrue (g.holds x right y) ⊎ ((s : Name) × IsTrue (met (Ahead s)) × IsTrue (g.holds s right y) × (level (Ahead s) ≤ length names))

-- x gets what a walk leads to with the help of those alone that it asks
abbrev pub AskedSuffice : Type 0
AskedSuffice = (g : ProtectionGraph) (acts : Acts) (right : Right) (x y : Name) (p : Stand) (ss : List Stand) (s : Name) → IsStart g acts x p → (walk : IsWalk g acts p ss (Ahead s)) → IsTrue (g.holds s right y) → HeldAlong g (with_helpers acts x (asked_on g acts x p ss (Ahead s) walk)) right x y

-- it is enough that those of the vertices that act are among more
abbrev pub MoreVerticesAct : Type 0
MoreVerticesAct = (g : ProtectionGraph) (acts more : Acts) (right : Right) (x y : Name) → ((v : Name) → IsTrue (has_vertex g v) → IsTrue (acts v) → IsTrue (more v)) → HeldAlong g acts right x y → HeldAlong g more right x y

-- helpers other than x that act, none twice, who are enough, and no others that are fewer are
pub record AreLeastHelpers (g : ProtectionGraph) (acts : Acts) (right : Right) (x y : Name) (names : List Name) : Type 0 where
  pub apart : NoRepeat names
  pub others : (v : Name) → IsTrue (is_among v names) → IsFalse (same_name v x) × IsTrue (has_vertex g v) × IsTrue (acts v)
  pub enough : CanShareBy g (with_helpers acts x names) right x y
  pub fewest : (names' : List Name) → CanShareBy g (with_helpers acts x names') right x y → length names ≤ length names'

-- no stand comes twice
abbrev pub NoStandTwice : List Stand → Type 0
NoStandTwice [] = ⊤
NoStandTwice (p ∷ ps) = IsFalse (list_any (same_stand p) ps) × NoStandTwice ps

-- a walk without a repeated stand that asks as many as the level of its holder, the least of all holders' levels
pub record IsLeastWalk (g : ProtectionGraph) (acts : Acts) (met : Stand → Bool) (level : Stand → ℕ) (right : Right) (x y : Name) (p : Stand) (ss : List Stand) (s : Name) (walk : IsWalk g acts p ss (Ahead s)) : Type 0 where
  pub start : IsStart g acts x p
  pub once : NoStandTwice (p ∷ ss)
  pub has : IsTrue (g.holds s right y)
  pub exact : length (asked_on g acts x p ss (Ahead s) walk) ≤ level (Ahead s)
  pub least : (other : Name) → IsTrue (met (Ahead other)) → IsTrue (g.holds other right y) → level (Ahead s) ≤ level (Ahead other)

-- those whom a least walk asks are the fewest helpers, where x does not hold the right
abbrev pub LeastWalkAsksFewest : Type 0
LeastWalkAsksFewest = (g : ProtectionGraph) (acts : Acts) (met : Stand → Bool) (level : Stand → ℕ) (right : Right) (x y : Name) (p : Stand) (ss : List Stand) (s : Name) (walk : IsWalk g acts p ss (Ahead s)) → WellFormed g → length g.vertices < 2 ^ 64 → IsTrue (has_vertex g x) → IsTrue (has_vertex g y) → IsFalse (g.holds x right y) → AreLevels g acts x met level → IsLeastWalk g acts met level right x y p ss s walk → AreLeastHelpers g acts right x y (asked_on g acts x p ss (Ahead s) walk)
