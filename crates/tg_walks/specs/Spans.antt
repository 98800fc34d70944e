-- Spans and bridges: the same as walks, in the words of the papers on take and grant.
use Rattle.std.specs.Prelude.{◌≡◌, ◌||◌, ◌⊎◌, ◌↔◌, IsTrue, List, [], ◌∷◌}
use Rattle.tg_names.specs.declared.right_sets.Right.{Right}
use Rattle.tg_names.specs.declared.right_sets.Right.TheVariants.{G}
use Rattle.tg_names.specs.Names.{Name}
use Rattle.tg_graph.specs.Graphs.{ProtectionGraph, has_vertex}
use Rattle.tg_walks.specs.Acting.{Acts}
use Rattle.tg_walks.specs.Walks.{HeldAlong}
use Rattle.tg_walks.specs.Laws.{TakesAlong}

-- u comes along takes to v
abbrev pub TakesTo : ProtectionGraph → Name → Name → Type 0
TakesTo g u v = (path : List Name) × TakesAlong g u path v

-- a vertex that acts
abbrev pub DoesAct : ProtectionGraph → Acts → Name → Type 0
DoesAct g acts u = IsTrue (has_vertex g u) × IsTrue (acts u)

-- u is x, or comes along takes to one that has grant over x
abbrev pub IsInitialSpan : ProtectionGraph → Name → Name → Type 0
IsInitialSpan g u x = (u ≡ x) ⊎ ((a : Name) × TakesTo g u a × IsTrue (g.holds a G x))

-- takes from u to v, or from v to u, or from both to the ends of a grant edge
abbrev pub IsBridge : ProtectionGraph → Name → Name → Type 0
IsBridge g u v = TakesTo g u v ⊎ (TakesTo g v u ⊎ ((a : Name) × (b : Name) × TakesTo g u a × TakesTo g v b × IsTrue (g.holds a G b || g.holds b G a)))

-- the vertices from u on, each of which acts and is joined to the next by a bridge, and the last is v
abbrev pub AreBridges : ProtectionGraph → Acts → Name → List Name → Name → Type 0
AreBridges g acts u [] v = (u ≡ v) × DoesAct g acts u
AreBridges g acts u (w ∷ ws) v = DoesAct g acts u × IsBridge g u w × AreBridges g acts w ws v

-- vertices that act, joined by bridges, lead from u to v
abbrev pub IsBridged : ProtectionGraph → Acts → Name → Name → Type 0
IsBridged g acts u v = (vertices : List Name) × AreBridges g acts u vertices v

-- an initial span to x, bridges, and takes to a holder
abbrev pub HeldOverBridges : ProtectionGraph → Acts → Right → Name → Name → Type 0
HeldOverBridges g acts right x y = (first : Name) × (last : Name) × (s : Name) × IsInitialSpan g first x × IsBridged g acts first last × TakesTo g last s × IsTrue (g.holds s right y)

-- a right is held along walks exactly where it is held at once, or over an initial span, bridges and takes
abbrev pub SpansAndBridges : Type 0
SpansAndBridges = (g : ProtectionGraph) (acts : Acts) (right : Right) (x y : Name) → HeldAlong g acts right x y ↔ (IsTrue (g.holds x right y) ⊎ HeldOverBridges g acts right x y)
