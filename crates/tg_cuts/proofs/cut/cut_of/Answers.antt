use Rattle.std.proofs.Common.{◌<◌, ◌^◌, Bool, List, length, subst, arith}
use Rattle.std.specs.Map.{keys_of}
use Rattle.std.proofs.lemmas.Option.{MatchOption-at_some, MatchOption-at_none}
use Rattle.std.proofs.lemmas.Map.Entries.{length-keys_of}
use Rattle.tg_flow.specs.Courses.{is_in}
use Rattle.tg_graph.specs.GraphOf.{graph_of}
use Rattle.tg_cuts.specs.CutParts.{AreEndless, AreSides, free_of, AreLosses}
use Rattle.tg_cuts.proofs.CutFound.{endless-none, found}
use Rattle.tg_cuts.proofs.cut.cut_of.Goals as goal

pub returns-in_default : goal.returns-in_default
returns-in_default c =
    let es = c.args.graph.now in
    let a = c.args.asked.now in
    let small : length (keys_of es) < 2 ^ 64 = omega (arith, c.len.type_inv, c.len.ensures.value, length-keys_of es) in
    let endless = MatchOption-at_none (AreEndless es a.right a.y a.kept.now a.x_position) (λ marks. AreSides es a.right a.y a.kept.now a.x_position a.y_position (is_in marks.items)) c.in_default.is c.in_ok-marks.ensures in
    endless-none es c.len.ensures.graph c.len.ensures.well_formed small c.shared_exactly.ensures a.right c.args.x a.y a.kept.now a.x_position a.y_position c.requires.x c.requires.y endless

pub returns : goal.returns
returns c =
    let es = c.args.graph.now in
    let a = c.args.asked.now in
    let others = c.in-Some.others.items in
    let small : length (keys_of es) < 2 ^ 64 = omega (arith, c.len.type_inv, c.len.ensures.value, length-keys_of es) in
    let sides = MatchOption-at_some (AreEndless es a.right a.y a.kept.now a.x_position) (λ marks. AreSides es a.right a.y a.kept.now a.x_position a.y_position (is_in marks.items)) c.in-Some.others c.in-Some.is c.in_ok-marks.ensures in
    let losses = subst (λ (marks : List Bool). AreLosses (graph_of es) a.right a.y (free_of es marks) c.in_ok-rules.rules.items) c.as_slice.ensures.value c.in_ok-rules.ensures in
    found es c.len.ensures.graph c.len.ensures.well_formed small c.shared_exactly.ensures a.right c.args.x a.y a.kept.now a.x_position a.y_position c.requires.x c.requires.y c.units_cross.ensures c.sides_part.ensures others sides c.in_ok-rules.rules.items losses
