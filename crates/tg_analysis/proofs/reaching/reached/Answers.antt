use Rattle.std.proofs.Common.{◌≡◌, ◌∙◌, length, arith, sym, subst}
use Rattle.std.specs.Map.{keys_of}
use Rattle.std.proofs.lemmas.Map.Entries.{length-keys_of}
use Rattle.tg_analysis.specs.Reaching.{ReachUpTo}
use Rattle.tg_analysis.proofs.Reached.{reach-none}
use Rattle.tg_analysis.proofs.reaching.reached.Goals as goal

pub loop-source-init : goal.loop-source-init
loop-source-init c =
    let g = c.args.graph.now in
    reach-none g c.args.islands.now c.args.number c.len-count.result c.in_ok-sets.sets.items (c.len-count.ensures.value ∙ sym (length-keys_of g)) c.in_ok-sets.ensures

pub returns : goal.returns
returns c =
    let g = c.args.graph.now in
    let end : c.loop-source.source ≡ length (keys_of g) = omega (arith, c.len-count.ensures.value, length-keys_of g) in
    subst (λ n. ReachUpTo g c.args.islands.now c.args.number n c.loop-source.sets.items) end c.loop-source.invariant
