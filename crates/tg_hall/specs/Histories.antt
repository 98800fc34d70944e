-- Histories: lists of committed sessions.
use Rattle.std.specs.Prelude.{◌≡◌, ◌==◌, ℕ, List, [], ◌∷◌, take, slice_get, Some, count_by, ⊤}
use Rattle.tg_graph.specs.Graphs.{ProtectionGraph}
use Rattle.tg_hall.specs.declared.records.Record.{Record}
use Rattle.tg_hall.specs.Answers.{after_steps, AreAnswers}

-- the graph after all steps of all records
abbrev pub replay : ProtectionGraph → List Record → ProtectionGraph
replay g [] = g
replay g (r ∷ rest) = replay (after_steps g r.steps) rest

-- each record is true: its replies are answers at its place
abbrev pub IsLegal : ProtectionGraph → List Record → Type 0
IsLegal g [] = ⊤
IsLegal g (r ∷ rest) = AreAnswers g r.steps × IsLegal (after_steps g r.steps) rest

-- how many records are of the seat
abbrev pub count_of : ℕ → List Record → ℕ
count_of seat history = count_by (λ r. r.seat == seat) history

-- each record has as its number how many of its seat stand before it
abbrev pub IsNumbered : List Record → Type 0
IsNumbered history = (place : ℕ) (r : Record) → slice_get history place ≡ Some r → r.number ≡ count_of r.seat (take place history)

-- no two records are of one seat under one number
abbrev pub AreApart : List Record → Type 0
AreApart history = (i j : ℕ) (r s : Record) → slice_get history i ≡ Some r → slice_get history j ≡ Some s → r.seat ≡ s.seat → r.number ≡ s.number → i ≡ j
