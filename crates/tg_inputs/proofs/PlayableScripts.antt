-- A script that was read can be played.
use Rattle.tg_graph.specs.declared.session.Act.{Act}
use Rattle.tg_graph.specs.declared.session.Act.TheVariants.{Begin, Stage, Commit, Abort}
use Rattle.tg_graph.specs.declared.session.Step.TheVariants.{Do, Holds, Share}
use Rattle.tg_text.specs.ScriptText.{ScriptOf, IsNamedAct, AreNamedEvents, IsWithinLimits}
use Rattle.tg_graph.specs.StepWords.{IsStageableAct}
use Rattle.tg_inputs.specs.Outcomes.{IsPlayableScript}

stageable : (act : Act) → IsNamedAct act → IsStageableAct act
stageable Begin h = h
stageable (Stage (Do rule)) h = h
stageable (Stage (Holds right x y)) h = h
stageable (Stage (Share right x y)) h = h
stageable Commit h = h
stageable Abort h = h

-- a script that was read can be played
pub playable : (script : ScriptOf) → AreNamedEvents script.lines → IsWithinLimits script → IsPlayableScript script
playable script named within = record {
  some_cells = within.cells.0;
  cells = within.cells.1;
  some_seats = within.seats.0;
  seats = within.seats.1;
  events = λ k d lt. record { seat = (within.events k d lt).0; there = (within.events k d lt).1; act = stageable _ (named k d lt) };
}
