use Rattle.std.proofs.Common.{ap}
use Rattle.tg_inputs.specs.Calls.{call_words}
use Rattle.officer.specs.Dealings.{bytes_of, seen}
use Rattle.tg_inputs.specs.Outcomes.{report_text}
use Rattle.officer.proofs.DealingLemmas.{bytes_printed, call_answered}
use Rattle.officer.proofs.call.answer.Goals as goal

pub returns-in-Ok-report_of : goal.returns-in-Ok-report_of
returns-in-Ok-report_of g c =
    call_answered _ _ _ (call_words c.args.call.now) _ _ _ (report_text c.in-Ok-report_of.report) _ c.texts_of.ensures (ap (seen bytes_of) c.in-Ok.is) c.in-Ok-report_of.ensures (bytes_printed _ _ _ _ _ _ c.deref.ensures.value c.print.ensures)
