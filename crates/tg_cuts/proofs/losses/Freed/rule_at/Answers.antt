use Rattle.std.proofs.Common.{Some, sym, ap, ◌∙◌}
use Rattle.tg_islands.proofs.RowEnds.{end-within, label-named}
use Rattle.tg_cuts.proofs.FlowEdges.{name-there}
use Rattle.tg_cuts.proofs.LossRules.{loss-by-name, takes-past, takes-nothing, takes-loss}
use Rattle.tg_cuts.proofs.losses.Freed.rule_at.Goals as goal

pub name_of-target-requires : goal.name_of-target-requires
name_of-target-requires c = end-within c.args.graph.now c.args.position c.args.place c.in-Some.end c.in-Some.label (sym c.end_in.ensures ∙ c.in-Some.is)

pub loss-rights-requires : goal.loss-rights-requires
loss-rights-requires c = label-named c.args.graph.now c.requires.graph c.args.position c.args.place c.in-Some.end c.in-Some.label (sym c.end_in.ensures ∙ c.in-Some.is)

pub returns-in_default : goal.returns-in_default
returns-in_default c =
    takes-past c.args.graph.now c.requires.graph c.args.self.now.right c.args.self.now.y c.args.self.now.beyond.now c.args.source c.args.position c.requires.source c.args.place (sym c.end_in.ensures ∙ c.in_default.is)

pub returns-then-is_empty : goal.returns-then-is_empty
returns-then-is_empty c =
    let es = c.args.graph.now in
    let freed = c.args.self.now in
    let read = sym c.end_in.ensures ∙ c.in-Some.is in
    let at_target = name-there es c.in-Some.end (end-within es c.args.position c.args.place c.in-Some.end c.in-Some.label read) ∙ ap Some (sym c.name_of-target.ensures) in
    let lost = loss-by-name es c.requires.graph freed.right freed.y freed.beyond.now c.args.source c.args.position c.requires.source c.args.place c.in-Some.end c.name_of-target.result c.in-Some.label c.loss-rights.result at_target c.is_free-from_free.result c.is_free-to_free.result c.eq-to_y.result c.is_free-from_free.ensures c.is_free-to_free.ensures c.eq-to_y.ensures c.loss-rights.ensures in
    takes-nothing es c.requires.graph freed.right freed.y freed.beyond.now c.args.source c.args.position c.requires.source c.args.place c.in-Some.end c.name_of-target.result c.in-Some.label c.loss-rights.result read at_target lost (sym (c.is_empty.ensures tt) ∙ c.if-is_empty.true)

pub returns : goal.returns
returns c =
    let es = c.args.graph.now in
    let freed = c.args.self.now in
    let read = sym c.end_in.ensures ∙ c.in-Some.is in
    let at_target = name-there es c.in-Some.end (end-within es c.args.position c.args.place c.in-Some.end c.in-Some.label read) ∙ ap Some (sym c.name_of-target.ensures) in
    let lost = loss-by-name es c.requires.graph freed.right freed.y freed.beyond.now c.args.source c.args.position c.requires.source c.args.place c.in-Some.end c.name_of-target.result c.in-Some.label c.loss-rights.result at_target c.is_free-from_free.result c.is_free-to_free.result c.eq-to_y.result c.is_free-from_free.ensures c.is_free-to_free.ensures c.eq-to_y.ensures c.loss-rights.ensures in
    takes-loss es c.requires.graph freed.right freed.y freed.beyond.now c.args.source c.args.position c.requires.source c.args.place c.in-Some.end c.name_of-target.result c.in-Some.label c.loss-rights.result read at_target lost (sym (c.is_empty.ensures tt) ∙ c.if-is_empty.false)
