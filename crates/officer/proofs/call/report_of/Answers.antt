use Rattle.std.proofs.Common.{refl}
use Rattle.tg_inputs.specs.Outcomes.{report_text}
use Rattle.officer.proofs.DealingLemmas.{report_same}
use Rattle.officer.proofs.call.report_of.Goals as goal

pub returns-in_ok-made-in-Some : goal.returns-in_ok-made-in-Some
returns-in_ok-made-in-Some g c = report_same _ _ _ _ _ _ (report_text c.in_ok-made-in-Some.made) c.in-Some.ensures refl refl c.in_ok-made-in-Some.ensures

pub returns-in_ok-made-in-None : goal.returns-in_ok-made-in-None
returns-in_ok-made-in-None g c = report_same _ _ _ _ _ _ (report_text c.in_ok-made-in-None.made) c.in-None.ensures c.deref.ensures.value c.deref-in-None.ensures.value c.in_ok-made-in-None.ensures
