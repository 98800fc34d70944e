use Rattle.std.proofs.Common.{sym, ap, ◌∙◌}
use Rattle.std.specs.List.{list_any}
use Rattle.tg_graph.specs.GraphOf.{graph_of}
use Rattle.tg_hall.specs.declared.seats.SeatState.{SeatState}
use Rattle.tg_hall.specs.Answers.{after_steps}
use Rattle.tg_hall.specs.Told.{tells_change}
use Rattle.tg_hall.proofs.Told.{unchanged-told}
use Rattle.tg_hall.proofs.seats.SeatState.advance.Goals as goal
use Rattle.tg_hall.proofs.seats.SeatState.advance.Goals.{then-has_change+in_ok-lay, else-has_change}

pub returns-clause-graph : goal.returns-clause-graph
returns-clause-graph c =
    let g = graph_of c.args.self.now.graph in
    let same = c.as_slice-committed.ensures.value in
    elim c.if-has_change.branch [
      | then-has_change+in_ok-lay w ↦ ap (λ (s : SeatState). graph_of s.graph) w.self-is ∙ w.in_ok-lay.ensures.graph
          ∙ ap (λ es. after_steps (graph_of es) c.as_slice-committed.result.now) w.give_up.ensures.graph ∙ ap (after_steps g) same
      | else-has_change w ↦
          ap (λ (s : SeatState). graph_of s.graph) w.self-is
          ∙ sym (unchanged-told g c.args.next.now.steps c.requires.answers (ap (list_any tells_change) (sym same) ∙ sym c.has_change.ensures ∙ w.if-has_change.false))
    ]
