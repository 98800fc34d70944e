-- A record that a seat offers to its journal.
use Rattle.std.specs.Prelude.{◌≡◌, ◌+◌, length, ⊤}
use Rattle.tg_graph.specs.Drafts.{Changes}
use Rattle.tg_journal.specs.declared.answers.Put.{Put}
use Rattle.tg_journal.specs.declared.answers.Put.TheVariants as put
use Rattle.tg_journal.specs.Answers.{PutSays}
use Rattle.tg_hall.specs.declared.records.Record.{Record}
use Rattle.tg_store.specs.declared.running_seats.Offered.{Offered}
use Rattle.tg_store.specs.declared.running_seats.Offered.TheVariants.{Won, Back}
use Rattle.tg_store.specs.Running.{RunningSeat, seat_number, IsSeat, GoesOn}

abbrev pub IsNotWon : Put → Type 0
IsNotWon (put.Won place) = ⊥
IsNotWon put.Full = ⊤
IsNotWon put.Memory = ⊤
IsNotWon (put.Lost place) = ⊤
IsNotWon (put.Foreign place) = ⊤

-- the seat has offered the record, with this answer
pub record IsOffered (old : RunningSeat) (stored : Record) (answer : Put) (new : RunningSeat) : Type 0 where
  pub says : PutSays seat_number stored answer old.pass new.pass
  pub full : answer ≡ put.Full → length old.pass.seen ≡ length old.pass.cells
  pub goes_on : GoesOn old new
  pub seat : IsSeat new

-- a record that was put is taken in; one that was not leaves the draft, and what is taken in
abbrev pub OfferSays : RunningSeat → Changes → Record → Offered → Type 0
OfferSays old draft stored (Won new place) = IsOffered old stored (put.Won place) new × (new.taken ≡ old.taken + 1)
OfferSays old draft stored (Back new back answer) =
    IsOffered old stored answer new × IsNotWon answer × (back ≡ draft) × (new.taken ≡ old.taken) × (new.graph ≡ old.graph)
