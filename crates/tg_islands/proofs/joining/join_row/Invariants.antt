use Rattle.tg_islands.specs.DisjointSets.{StayTogether}
use Rattle.tg_islands.specs.JoinedSets.{JoinedUpTo}
use Rattle.tg_islands.proofs.joining.join_row.Given as goal

abbrev pub invariant-loop-place : goal.invariant-loop-place
invariant-loop-place l = record {
  joined : JoinedUpTo l.graph l.sets l.position l.place;
  together : StayTogether l.initial.sets.sets.items l.sets.sets.items;
}
