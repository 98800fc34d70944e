-- Seats that have seen the same records, all of them their own.
use Rattle.std.specs.Prelude.{◌≡◌, ◌==◌, ℕ, Bool, true, List, slice_get, Some}
use Rattle.std.specs.List.{list_any}
use Rattle.tg_hall.specs.declared.records.Record.{Record}
use Rattle.tg_store.specs.Running.{RunningSeat}

-- whether one of the seats has the number
abbrev pub has_number : List RunningSeat → ℕ → Bool
has_number seats number = list_any (λ (s : RunningSeat). s.pass.number == number) seats

-- each record bears the number of one of the seats
abbrev pub AreOfSeats : List RunningSeat → List Record → Type 0
AreOfSeats seats records = (place : ℕ) (r : Record) → slice_get records place ≡ Some r → has_number seats r.seat ≡ true

-- there is a first seat, all have seen what it has, and each record there bears one of their numbers
pub record AreAgreed (seats : List RunningSeat) : Type 0 where
  pub first : RunningSeat
  pub is_first : slice_get seats 0 ≡ Some first
  pub same : (i : ℕ) (s : RunningSeat) → slice_get seats i ≡ Some s → s.pass.seen ≡ first.pass.seen
  pub own : AreOfSeats seats first.pass.seen
