use Rattle.std.proofs.Common.{◌≡◌, length, arith, subst}
use Rattle.tg_rows.specs.Rows.{row_number}
use Rattle.tg_cuts.specs.CutParts.{free_of, AddsRules}
use Rattle.tg_cuts.proofs.LossRules.{adds-none, adds-more}
use Rattle.tg_cuts.proofs.losses.Freed.add_row.Goals as goal

pub loop-place-init : goal.loop-place-init
loop-place-init c =
    let freed = c.args.self.now in
    adds-none c.args.graph.now c.requires.graph freed.right freed.y (free_of c.args.graph.now freed.beyond.now) c.args.source c.args.position c.requires.source c.args.rules.now.items

pub loop-place-preserved : goal.loop-place-preserved
loop-place-preserved c =
    let freed = c.args.self.now in
    adds-more c.args.graph.now c.requires.graph freed.right freed.y (free_of c.args.graph.now freed.beyond.now) c.args.source c.args.position c.requires.source c.loop-place.place c.args.rules.now.items c.loop-place.rules.items c.add_rule.new.rules.items c.loop-place.invariant c.in_ok-add_rule.ensures

pub returns : goal.returns
returns c =
    let freed = c.args.self.now in
    let end : c.loop-place.place ≡ length (row_number c.args.graph.now c.args.position) = omega (arith, c.row_len-place-end.ensures) in
    subst (λ n. AddsRules c.args.graph.now freed.right freed.y (free_of c.args.graph.now freed.beyond.now) c.args.source c.args.position n c.args.rules.now.items c.loop-place.rules.items) end c.loop-place.invariant
