use Rattle.std.proofs.Common.{◌≡◌, ◌+◌, ◌<◌, length, sym, ap, subst, ◌∙◌, arith}
use Rattle.tg_graph.specs.GraphOf.{graph_of}
use Rattle.tg_hall.specs.Drafted.{drafted}
use Rattle.tg_store.specs.Running.{RunningSeat, seen_graph}
use Rattle.tg_store.proofs.RunningSeats.{seat-at}
use Rattle.tg_store.proofs.running_seats.Seat.take_in.Goals as goal

pub invariant_of-self-2 : goal.invariant_of-self-2
invariant_of-self-2 c =
    let i = c.self.inside in
    let s : RunningSeat = record { opening = i.opening.value; pass = i.pass; taken = i.taken; graph = i.graph } in
    let lt = subst (λ (s : RunningSeat). s.taken < length s.pass.seen) (sym c.self.view_is) c.requires.seen in
    let laid = subst (λ (s : RunningSeat). drafted s.graph c.args.draft ≡ seen_graph s (s.taken + 1)) (sym c.self.view_is) c.requires.laid in
    seat-at s (i.taken + 1) c.merge.new.graph c.self.invariant (omega (arith, lt)) (ap graph_of c.in_ok-merge.ensures.merged ∙ laid)

pub returns-clause-seat : goal.returns-clause-seat
returns-clause-seat c =
    let i = c.self.inside in
    let s : RunningSeat = record { opening = i.opening.value; pass = i.pass; taken = i.taken; graph = i.graph } in
    let lt = subst (λ (s : RunningSeat). s.taken < length s.pass.seen) (sym c.self.view_is) c.requires.seen in
    let laid = subst (λ (s : RunningSeat). drafted s.graph c.args.draft ≡ seen_graph s (s.taken + 1)) (sym c.self.view_is) c.requires.laid in
    seat-at s (i.taken + 1) c.merge.new.graph c.self.invariant (omega (arith, lt)) (ap graph_of c.in_ok-merge.ensures.merged ∙ laid)
