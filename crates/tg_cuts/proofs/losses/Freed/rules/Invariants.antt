use Rattle.tg_cuts.specs.CutParts.{free_of}
use Rattle.tg_cuts.proofs.LossRules.{RulesUpTo}
use Rattle.tg_cuts.proofs.losses.Freed.rules.Given as goal

abbrev pub invariant-loop-source : goal.invariant-loop-source
invariant-loop-source l = RulesUpTo l.graph l.self.right l.self.y (free_of l.graph l.self.beyond.now) l.source-items l.source-index l.rules.items
