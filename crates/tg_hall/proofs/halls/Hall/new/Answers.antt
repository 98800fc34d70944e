use Rattle.std.proofs.Common.{rules, [], sym, ap, subst, ◌∙◌, arith, Err}
use Rattle.std.proofs.lemmas.Bool.Decides.{nat_tests}
use Rattle.std.proofs.lemmas.List.{length-map}
use Rattle.std.proofs.lemmas.Result.{err_from_is_err_and}
use Rattle.tg_hall.specs.Worlds.{OpensHall}
use Rattle.tg_hall.specs.Seats.{AreCounted}
use Rattle.tg_graph.specs.GraphOf.{graph_of}
use Rattle.tg_hall.specs.Trails.{IsTrail}
use Rattle.tg_hall.proofs.TrailLemmas.{trail-none}
use Rattle.tg_hall.proofs.HallLemmas.{fresh_counts}
use Rattle.tg_hall.proofs.halls.Hall.new.Goals as goal

pub invariant_of-result : goal.invariant_of-result
invariant_of-result c = record {
  cells = search rules;
  room = search rules;
  legal = search rules;
  numbered = search rules;
  trail = let g = graph_of c.in_ok-opening.opening in subst (λ records. IsTrail g records c.new-2.result) (sym c.new.ensures.items) (trail-none g c.new-2.result c.new-2.ensures.positions c.new-2.ensures.starts);
  rests = search rules;
  consistent = search rules;
  counted = let h : AreCounted [] c.in_ok-seats.seats.items = fresh_counts c.in_ok-seats.seats.items c.in_ok-seats.ensures.fresh in search rules;
}

pub returns-in_err-seats : goal.returns-in_err-seats
returns-in_err-seats c =
    let p = err_from_is_err_and c.from_residual-in_err-seats.result c.from_residual-in_err-seats.ensures.1 in
    let rows = length-map c.args.graph.now (λ e. e.0) in
    subst (OpensHall c.args.graph.now c.args.cells c.args.seats) (sym (p.1 ∙ ap Err p.2)) (grind (arith, nat_tests, rows, c.len.ensures.value))
