use Rattle.std.proofs.Common.{◌≡◌, length, arith, subst}
use Rattle.std.specs.Map.{keys_of}
use Rattle.std.proofs.lemmas.Map.Entries.{length-keys_of}
use Rattle.tg_analysis.specs.Reaching.{HoldUpTo}
use Rattle.tg_analysis.proofs.Reached.{hold-none}
use Rattle.tg_analysis.proofs.reaching.held_over.Goals as goal

pub loop-position-init : goal.loop-position-init
loop-position-init c = hold-none c.args.graph.now c.args.islands.now c.args.y c.count.result c.in_ok-held.held.items c.count.ensures c.in_ok-held.ensures

pub returns : goal.returns
returns c =
    let g = c.args.graph.now in
    let end : c.loop-position.position ≡ length (keys_of g) = omega (arith, c.len-count.ensures.value, length-keys_of g) in
    subst (λ n. HoldUpTo g c.args.islands.now c.args.y n c.loop-position.held.items) end c.loop-position.invariant
