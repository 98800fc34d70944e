use Rattle.tg_cuts.specs.CutParts.{free_of, AddsRules}
use Rattle.tg_cuts.proofs.losses.Freed.add_row.Given as goal

abbrev pub invariant-loop-place : goal.invariant-loop-place
invariant-loop-place l = AddsRules l.graph l.self.right l.self.y (free_of l.graph l.self.beyond.now) l.source l.position l.place l.initial.rules.items l.rules.items
