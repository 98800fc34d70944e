-- Which steps and acts may be staged.
use Rattle.std.specs.Prelude.{⊤}
use Rattle.tg_graph.specs.declared.session.Act.{Act}
use Rattle.tg_graph.specs.declared.session.Act.TheVariants as act
use Rattle.tg_graph.specs.declared.session.Step.{Step}
use Rattle.tg_graph.specs.declared.session.Step.TheVariants.{Do, Holds, Share}
use Rattle.tg_names.specs.Sets.{IsNamed}
use Rattle.tg_graph.specs.Rules.{rights_of}

-- the rights that a step names are rights
abbrev pub IsNamedStep : Step → Type 0
IsNamedStep (Do rule) = IsNamed (rights_of rule)
IsNamedStep (Holds right x y) = ⊤
IsNamedStep (Share right x y) = ⊤

-- a step that the act stages names only rights
abbrev pub IsStageableAct : Act → Type 0
IsStageableAct act.Begin = ⊤
IsStageableAct (act.Stage step) = IsNamedStep step
IsStageableAct act.Commit = ⊤
IsStageableAct act.Abort = ⊤
