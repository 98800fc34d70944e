use Rattle.std.proofs.Common.{sym, ◌∙◌}
use Rattle.tg_islands.proofs.JoinedSets.{joined-edge}
use Rattle.tg_islands.proofs.joining.join_edge.Goals as goal

pub returns-in_ok-join-clause-joined : goal.returns-in_ok-join-clause-joined
returns-in_ok-join-clause-joined c =
    joined-edge c.args.graph.now c.requires.graph c.args.position c.args.place c.args.sets.now c.requires.so_far c.join.new.self c.in-Some.end (sym c.linked_end.ensures ∙ c.in-Some.is) c.in_ok-join.ensures
