-- What the calls of a journal answer, and what each answer says of the pass before and after it.
use Rattle.std.specs.Prelude.{◌<◌, ◌≤◌, Bool, true, false, ◌≡◌, ◌≢◌, ℕ, [], ◌∷◌, ◌++◌, length, take, ◌+◌, slice_get, Some}
use Rattle.tg_journal.specs.declared.answers.JournalFault.{JournalFault}
use Rattle.tg_journal.specs.declared.answers.JournalFault.TheVariants as start
use Rattle.tg_journal.specs.declared.answers.MeetFault.{MeetFault}
use Rattle.tg_journal.specs.declared.answers.MeetFault.TheVariants as meet
use Rattle.tg_journal.specs.declared.answers.Next.{Next}
use Rattle.tg_journal.specs.declared.answers.Next.TheVariants.{Entry, End, Foreign}
use Rattle.tg_journal.specs.declared.answers.Put.{Put}
use Rattle.tg_journal.specs.declared.answers.Put.TheVariants as put
use Rattle.tg_journal.specs.Limits.{most_cells, most_seats}
use Rattle.tg_journal.specs.Pass.{PassState, KnowsAt, KnowsFromAsBefore}
use Rattle.tg_journal.specs.Front.{FrontState}

-- a journal may have so many cells
abbrev pub AreCells : ℕ → Type 0
AreCells cells = (0 < cells) × (cells ≤ most_cells)

-- a journal may have so many passes
abbrev pub AreSeats : ℕ → Type 0
AreSeats seats = (0 < seats) × (seats ≤ most_seats)

-- why no journal was made
abbrev pub StartFaultSays : ℕ → ℕ → JournalFault → Type 0
StartFaultSays cells seats start.Cells = ¬ AreCells cells
StartFaultSays cells seats start.Seats = AreCells cells × ¬ AreSeats seats
StartFaultSays cells seats start.Memory = AreCells cells × AreSeats seats

module _ {R : Type 0} (seat : R → ℕ) where
  -- the pass knows a record of its own number at the first place that it has not seen
  abbrev pub IsForeign : ℕ → PassState R → Type 0
  IsForeign place p = (place ≡ length p.seen) × ((r : R) × KnowsAt p place r × (seat r ≡ p.number))

  -- a look finds nothing only where the pass knew nothing
  abbrev pub NextSays : Next R → PassState R → PassState R → Type 0
  NextSays (Entry r) old new = (new.seen ≡ old.seen ++ r.now ∷ []) × (seat r.now ≢ old.number)
  NextSays End old new = (new ≡ old) × ((r : R) → ¬ KnowsAt old (length old.seen) r)
  NextSays (Foreign place) old new = (new.seen ≡ old.seen) × IsForeign place new

  -- offered: the record that was to be put
  abbrev pub PutSays : R → Put → PassState R → PassState R → Type 0
  PutSays offered put.Full old new = new ≡ old
  PutSays offered put.Memory old new = new ≡ old
  PutSays offered (put.Won place) old new = (place ≡ length old.seen) × (new.seen ≡ old.seen ++ offered ∷ []) × (new.mine ≡ old.mine ++ place ∷ [])
  PutSays offered (put.Lost place) old new =
      (place ≡ length old.seen) × (new.mine ≡ old.mine) × ((r : R) × (new.seen ≡ old.seen ++ r ∷ []) × (seat r ≢ old.number))
  PutSays offered (put.Foreign place) old new = (new.seen ≡ old.seen) × (new.mine ≡ old.mine) × IsForeign place new

  -- the pass has taken over what the front has before that place, and of the cell there it knows what the front has; of all further cells it knows what it knew
  abbrev pub MeetFaultSays : MeetFault → FrontState R → PassState R → PassState R → Type 0
  MeetFaultSays (meet.Foreign place) front old new =
      (place < length front.seen) × (new.seen ≡ take place front.seen) × (slice_get new.known place ≡ Some (slice_get front.seen place)) × IsForeign place new × KnowsFromAsBefore (place + 1) old new

  -- the pass has seen the record that it knew at the first place that it had not seen, unless that is one of its own number
  abbrev pub LookSays : Bool → PassState R → PassState R → Type 0
  LookSays true old new = (r : R) × KnowsAt old (length old.seen) r × (new.seen ≡ old.seen ++ r ∷ []) × (seat r ≢ old.number)
  LookSays false old new = (new.seen ≡ old.seen) × IsForeign (length old.seen) new
