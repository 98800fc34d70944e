use Rattle.std.proofs.Common.{◌+◌, ◌<◌, length, sym, ap, subst, ◌∙◌, arith}
use Rattle.tg_graph.specs.GraphOf.{graph_of}
use Rattle.tg_hall.specs.Answers.{after_steps}
use Rattle.tg_store.specs.Running.{RunningSeat}
use Rattle.tg_store.proofs.RunningSeats.{seat-at}
use Rattle.tg_store.proofs.RunningSessions.{next-graph}
use Rattle.tg_store.proofs.running_seats.Seat.take_in_next.Goals as goal

pub invariant_of-self-2 : goal.invariant_of-self-2
invariant_of-self-2 c =
    let i = c.self.inside in
    let s : RunningSeat = record { opening = i.opening.value; pass = i.pass; taken = i.taken; graph = i.graph } in
    let lt = subst (λ (s : RunningSeat). s.taken < length s.pass.seen) (sym c.self.view_is) c.requires.seen in
    let laid = c.in_ok-lay_all.ensures.graph ∙ ap (after_steps (graph_of i.graph)) c.as_slice.ensures.value in
    seat-at s (i.taken + 1) c.lay_all.new.graph c.self.invariant (omega (arith, lt)) (next-graph s c.in-Some.stored.now c.lay_all.new.graph c.self.invariant (sym c.in-Some.ensures) laid)

pub returns-clause-seat : goal.returns-clause-seat
returns-clause-seat c =
    let i = c.self.inside in
    let s : RunningSeat = record { opening = i.opening.value; pass = i.pass; taken = i.taken; graph = i.graph } in
    let lt = subst (λ (s : RunningSeat). s.taken < length s.pass.seen) (sym c.self.view_is) c.requires.seen in
    let laid = c.in_ok-lay_all.ensures.graph ∙ ap (after_steps (graph_of i.graph)) c.as_slice.ensures.value in
    seat-at s (i.taken + 1) c.lay_all.new.graph c.self.invariant (omega (arith, lt)) (next-graph s c.in-Some.stored.now c.lay_all.new.graph c.self.invariant (sym c.in-Some.ensures) laid)
