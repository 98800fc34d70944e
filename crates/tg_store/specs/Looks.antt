-- A look of a seat at the next cell.
use Rattle.std.specs.Prelude.{◌≡◌, ◌+◌, Bool, true, false, length}
use Rattle.tg_store.specs.declared.running_seats.Look.{Look}
use Rattle.tg_store.specs.declared.running_seats.Look.TheVariants.{Found, Nothing, Foreign}
use Rattle.tg_store.specs.Running.{RunningSeat, IsSeat, KnowsNoMore, GoesOn, PutsNothing}
use Rattle.tg_store.specs.Outcomes.{FindsForeign}

abbrev pub is_found : Look → Bool
is_found Found = true
is_found Nothing = false
is_found (Foreign place) = false

abbrev pub FindSays : RunningSeat → Look → RunningSeat → Type 0
FindSays old Found new = length new.pass.seen ≡ length old.pass.seen + 1
FindSays old Nothing new = (new ≡ old) × KnowsNoMore old
FindSays old (Foreign place) new = (length new.pass.seen ≡ length old.pass.seen) × FindsForeign place new

-- the look sees one record more, or none; what is taken in stays
pub record LookSays (old : RunningSeat) (look : Look) (new : RunningSeat) : Type 0 where
  pub goes_on : GoesOn old new
  pub nothing_put : PutsNothing old new
  pub copy : (new.taken ≡ old.taken) × (new.graph ≡ old.graph)
  pub seat : IsSeat new
  pub finds : FindSays old look new
