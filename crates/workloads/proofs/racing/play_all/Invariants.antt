use Rattle.std.proofs.Common.{All}
use Rattle.tg_store.specs.Running.{IsOf}
use Rattle.workloads.proofs.racing.play_all.Given as goal

abbrev pub invariant-loop : goal.invariant-loop
invariant-loop l = All (IsOf l.store) l.seats.items
