use Rattle.tg_text.specs.ScriptText.{script_of}
use Rattle.tg_inputs.proofs.PlayableScripts.{playable}
use Rattle.tg_inputs.proofs.inputs.script_in.Goals as goal

pub returns-in-Ok-clause-playable : goal.returns-in-Ok-clause-playable
returns-in-Ok-clause-playable c = playable (script_of c.in-Ok.script) c.in-Ok.ensures.named c.in-Ok.ensures.within
