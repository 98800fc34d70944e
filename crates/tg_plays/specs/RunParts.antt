-- What the parts of the playing of a script bring.
use Rattle.std.specs.Prelude.{◌≡◌, ⊤, ℕ, List, ◌++◌, length}
use Rattle.tg_graph.specs.declared.session.Reply.TheVariants.{Refused}
use Rattle.tg_text.specs.declared.script_text.ScriptLine.{ScriptLine}
use Rattle.tg_hall.specs.declared.events.HallFault.{HallFault}
use Rattle.tg_hall.specs.declared.events.HallFault.TheVariants as hall
use Rattle.tg_hall.specs.declared.events.HallReply.{HallReply}
use Rattle.tg_hall.specs.declared.events.HallReply.TheVariants as reply
use Rattle.tg_hall.specs.Worlds.{World}
use Rattle.tg_plays.specs.Runs.{IsOutcome}

-- an act may be refused so, and it is told, or there was no memory
abbrev pub MayBeToldFault : HallFault → Type 0
MayBeToldFault hall.NoSeat = ⊥
MayBeToldFault _ = ⊤

-- an act may end so
abbrev pub MayBeTold : HallReply → Type 0
MayBeTold (reply.Learned place) = ⊥
MayBeTold reply.Nothing = ⊥
MayBeTold (reply.Refused fault) = MayBeToldFault fault
MayBeTold _ = ⊤

-- an event is carried out, and the line of its outcome is added to the text; the hall has as many seats as before
pub record PlaysOn (w : World) (event : ScriptLine) (text text' : List ℕ) (v : World) : Type 0 where
  pub line : List ℕ
  pub outcome : IsOutcome w event line v
  pub added : text' ≡ text ++ line
  pub seats : length v.seats ≡ length w.seats
