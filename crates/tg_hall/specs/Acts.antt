-- Acts of a seat: lists of events.
use Rattle.std.specs.Prelude.{◌≡◌, ℕ, ◌+◌, ◌<◌, None, Some, slice_get, Bool, true, false, MatchBool, List, [], ◌∷◌, ◌++◌, length, map, replicate, is_none, ⊤}
use Rattle.std.specs.Option.{option_map_or}
use Rattle.tg_graph.specs.declared.session.Act.{Act}
use Rattle.tg_graph.specs.declared.session.Act.TheVariants as act
use Rattle.tg_hall.specs.declared.events.Event.{Event}
use Rattle.tg_hall.specs.declared.events.Event.TheVariants.{Begin, Learn, Stage, Put, Abort}
use Rattle.tg_hall.specs.declared.events.HallReply.{HallReply}
use Rattle.tg_hall.specs.declared.events.HallReply.TheVariants as reply
use Rattle.tg_hall.specs.Worlds.{World, SeatView, seat_of, Happens, Run}

-- whether a reply says that a record was taken in
abbrev pub is_learned : HallReply → Bool
is_learned (reply.Learned place) = true
is_learned reply.Done = false
is_learned reply.Nothing = false
is_learned (reply.Said answer) = false
is_learned (reply.Put place) = false
is_learned (reply.Refused fault) = false

-- whether there is such a seat, with no open session
abbrev pub is_free : World → ℕ → Bool
is_free w k = option_map_or (λ s. is_none s.session) (seat_of w k) false

-- whether an act of the seat may take memory: to give up takes none, and to open a session none where the seat is not free
abbrev pub act_takes_memory : World → ℕ → Act → Bool
act_takes_memory w k act.Begin = is_free w k
act_takes_memory w k (act.Stage step) = true
act_takes_memory w k act.Commit = true
act_takes_memory w k act.Abort = false

-- a free seat that has taken in all that there is
abbrev pub caught_up : World → SeatView
caught_up w = record { taken = length w.history; session = None }

-- the seat of a number stands at the index and has not taken in all, and that at the other index has
pub record IsBehind (w : World) (k index other : ℕ) : Type 0 where
  pub seat : SeatView
  pub source : SeatView
  pub number : index + 1 ≡ k
  pub seat_is : slice_get w.seats index ≡ Some seat
  pub source_is : slice_get w.seats other ≡ Some source
  pub some_left : seat.taken < length w.history
  pub none_left : source.taken ≡ length w.history

-- an event again and again: each reply but the last says that a record was taken in
pub record Repeats (w : World) (event : Event) (answer : HallReply) (v : World) : Type 0 where
  pub places : List ℕ
  pub run : Run w (replicate (length places) event ++ event ∷ []) (map reply.Learned places ++ answer ∷ []) v
  pub last : is_learned answer ≡ false

-- a session is opened, if all was taken in
abbrev pub OpensAfter : World → ℕ → HallReply → HallReply → World → Type 0
OpensAfter mid k reply.Nothing answer v = Happens mid (Begin k) answer v
OpensAfter mid k told answer v = (answer ≡ told) × (v ≡ mid)

-- a seat takes in all that is left, and then opens a session
pub record CatchesUp (w : World) (k : ℕ) (answer : HallReply) (v : World) : Type 0 where
  pub mid : World
  pub told : HallReply
  pub learns : Repeats w (Learn k) told mid
  pub begins : OpensAfter mid k told answer v

-- the world may answer an act of a seat so and go on as v
abbrev pub Acts : World → ℕ → Act → HallReply → World → Type 0
Acts w k act.Begin answer v = MatchBool (is_free w k) (CatchesUp w k answer v) (Happens w (Begin k) answer v)
Acts w k (act.Stage step) answer v = Happens w (Stage k step) answer v
Acts w k act.Commit answer v = Repeats w (Put k) answer v
Acts w k act.Abort answer v = Happens w (Abort k) answer v

-- an event that may take in a record
abbrev pub MayLearn : Event → Type 0
MayLearn (Begin k) = ⊥
MayLearn (Learn k) = ⊤
MayLearn (Stage k step) = ⊥
MayLearn (Put k) = ⊤
MayLearn (Abort k) = ⊥
