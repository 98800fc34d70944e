use Rattle.std.proofs.Common.{refl}
use Rattle.tg_store.specs.Running.{RunningSeat}
use Rattle.tg_store.proofs.RunningSeats.{seat-sees}
use Rattle.tg_store.proofs.running_seats.Seat.meet.Goals as goal

pub invariant_of-self : goal.invariant_of-self
invariant_of-self c =
    let i = c.self.inside in
    let s : RunningSeat = record { opening = i.opening.value; pass = i.pass; taken = i.taken; graph = i.graph } in
    let t : RunningSeat = record { opening = i.opening.value; pass = c.meet.new.pass; taken = i.taken; graph = i.graph } in
    let e = c.meet.ensures in
    seat-sees s t refl e.begins e.number refl refl e.pass c.self.invariant e.mine

pub returns-clause-seat : goal.returns-clause-seat
returns-clause-seat c =
    let i = c.self.inside in
    let s : RunningSeat = record { opening = i.opening.value; pass = i.pass; taken = i.taken; graph = i.graph } in
    let t : RunningSeat = record { opening = i.opening.value; pass = c.meet.new.pass; taken = i.taken; graph = i.graph } in
    let e = c.meet.ensures in
    seat-sees s t refl e.begins e.number refl refl e.pass c.self.invariant e.mine
