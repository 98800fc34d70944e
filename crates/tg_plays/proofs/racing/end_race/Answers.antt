use Rattle.tg_inputs.specs.Outcomes.{report_text}
use Rattle.tg_plays.proofs.RaceReports.{removed-first, ends-in_graph, ends-in_fault}
use Rattle.tg_plays.proofs.racing.end_race.Goals as goal

pub returns-in-Ok : goal.returns-in-Ok
returns-in-Ok c =
    let taken = c.remove-first in
    let are = removed-first c.args.seats.items taken.result taken.new.self.items c.requires.some taken.ensures.value taken.ensures.items in
    let met = c.in-Ok.ensures in
    ends-in_graph c.args.text.items c.args.seats.items taken.result taken.new.self.items c.deref.result.now c.meet_all.new.seat (report_text c.in_ok-report-in-Ok.report) are met.goes_on.0 met.goes_on.1 met.seat c.deref.ensures.value _ met.met c.in_ok-report-in-Ok.ensures c.graph.ensures.replayed

pub returns : goal.returns
returns c =
    let taken = c.remove-first in
    let are = removed-first c.args.seats.items taken.result taken.new.self.items c.requires.some taken.ensures.value taken.ensures.items in
    let met = c.in-Err.ensures in
    ends-in_fault c.args.text.items c.args.seats.items taken.result taken.new.self.items c.deref.result.now c.meet_all.new.seat (report_text c.in_ok-report-in-Err.report) are met.goes_on.0 met.goes_on.1 met.seat c.deref.ensures.value c.in-Err.fault met.found c.in_ok-report-in-Err.ensures
