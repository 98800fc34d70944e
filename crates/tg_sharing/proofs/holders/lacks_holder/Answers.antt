use Rattle.std.proofs.Common.{arith, sym, ap, ◌∙◌, true≢false}
use Rattle.std.specs.Prelude.{not}
use Rattle.std.proofs.lemmas.Map.Entries.{length-keys_of}
use Rattle.tg_sharing.proofs.LookedUp.{looked-none, looked-next, looked-whole}
use Rattle.tg_sharing.proofs.holders.lacks_holder.Goals as goal

pub loop-position-preserved : goal.loop-position-preserved
loop-position-preserved c =
    looked-next c.args.graph.now c.len-count.ensures.graph c.args.rights c.args.y c.loop-position.missing c.rights_near.result c.difference-missing.result c.loop-position.position c.rights_near.ensures.rights c.difference-missing.ensures.set
    (omega (arith, c.len-count.ensures.value, length-keys_of c.args.graph.now)) c.loop-position.invariant

pub returns : goal.returns
returns c = λ lacks held.
    let none = looked-whole c.args.graph.now c.len-count.ensures.graph c.args.rights c.args.y c.len-count.ensures.well_formed c.loop-position.missing c.loop-position.position (omega (arith, c.len-count.ensures.value, length-keys_of c.args.graph.now)) c.loop-position.invariant held in
    true≢false (sym lacks ∙ ap not (c.is_empty-2.ensures tt ∙ none))

pub loop-position-init : goal.loop-position-init
loop-position-init c = looked-none c.args.graph.now c.args.rights c.named-missing.result c.args.y c.named-missing.ensures.named c.named-missing.ensures.members
