use Rattle.std.proofs.Common.{ap, subst}
use Rattle.tg_graph.specs.GraphOf.{graph_of}
use Rattle.tg_text.specs.ScriptText.{script_of}
use Rattle.tg_inputs.specs.Outcomes.{report_text}
use Rattle.tg_plays.specs.RaceParts.{AreFinished}
use Rattle.tg_plays.proofs.RaceReports.{ends-of, race-is}
use Rattle.tg_plays.proofs.racing.raced.Goals as goal

pub end_race-requires-clause-seats : goal.end_race-requires-clause-seats
end_race-requires-clause-seats g c =
    let start = c.in_ok-store in
    let results = c.in_ok-results.results.items in
    let done = subst (λ events. AreFinished events start.seats.items results) c.deref.ensures.value c.in_ok-results.ensures.each in
    ends-of start.store (script_of c.args.script.now) start.seats.items start.ensures.count start.ensures.seats results c.in_ok-results.ensures.len done c.in_ok-text.text.items c.in_ok-text.seats.items c.in_ok-text.ensures

pub returns : goal.returns
returns g c =
    let start = c.in_ok-store in
    let results = c.in_ok-results.results.items in
    let done = subst (λ events. AreFinished events start.seats.items results) c.deref.ensures.value c.in_ok-results.ensures.each in
    race-is start.store (script_of c.args.script.now) start.seats.items start.ensures.count start.ensures.seats results c.in_ok-results.ensures.len done c.in_ok-text.text.items c.in_ok-text.seats.items c.in_ok-text.ensures (graph_of c.args.graph.now) (report_text c.in_ok-report.report) (ap graph_of start.ensures.opening) start.ensures.cells c.in_ok-report.ensures
