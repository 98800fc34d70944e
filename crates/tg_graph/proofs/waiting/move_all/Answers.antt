use Rattle.std.proofs.Common.{arith}
use Rattle.std.specs.Map.{keys_of}
use Rattle.std.proofs.lemmas.List.{length-map}
use Rattle.tg_graph.proofs.WaitingLabels.{moved-all}
use Rattle.tg_graph.proofs.waiting.move_all.Goals as goal

pub returns : goal.returns
returns c labels m =
    moved-all (keys_of c.args.graph.now) labels c.loop-place.row c.loop-place.left (c.loop-place.invariant.moved labels m)
    (λ k h. c.loop-place.invariant.gone k (omega (arith, h, c.loop-place-test.false, c.len-place-end.ensures.value, length-map c.args.graph.now (λ e. e.0))))

pub returns-then-is_clear : goal.returns-then-is_clear
returns-then-is_clear c labels m =
    moved-all (keys_of c.args.graph.now) labels c.args.row.now c.args.left.now m (λ k h. c.is_clear.ensures c.if-is_clear.true k)
