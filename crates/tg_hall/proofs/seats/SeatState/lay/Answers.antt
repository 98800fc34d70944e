use Rattle.std.proofs.Common.{IfSome, sym, subst}
use Rattle.tg_hall.specs.Seats.{IsSessionOn}
use Rattle.tg_hall.proofs.SeatLemmas.{seat-clear}
use Rattle.tg_hall.proofs.seats.SeatState.lay.Goals as goal

pub returns-clause-consistent : goal.returns-clause-consistent
returns-clause-consistent c =
    let s = c.args.self.now in
    subst (λ g. IfSome s.session (IsSessionOn g)) (sym c.in_ok-merge.ensures.merged)
    (seat-clear s.graph c.args.committed.now c.in_ok-draft.draft s.session c.in_ok-draft.ensures c.requires.consistent c.requires.clear c.len.ensures.graph.apart c.requires.unknown)
