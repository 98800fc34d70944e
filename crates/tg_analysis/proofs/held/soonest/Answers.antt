use Rattle.std.proofs.Common.{◌≡◌, ◌+◌, length, get_or, sym, subst, arith}
use Rattle.std.proofs.lemmas.Option.{slice_get-get_or}
use Rattle.tg_index.specs.declared.by_target.Held.{Held}
use Rattle.tg_analysis.specs.Cases.{IsClaim, IsSoonest}
use Rattle.tg_analysis.proofs.Claims.{no_entry, claim-more}
use Rattle.tg_analysis.proofs.held.soonest.Goals as goal

pub loop-index-preserved : goal.loop-index-preserved
loop-index-preserved c =
    let entries = c.args.entries.now in
    let index = c.loop-index.index in
    let entry : Held = get_or entries index no_entry in
    let here = slice_get-get_or entries index no_entry c.loop-index-test.true in
    subst (IsSoonest (IsClaim entries c.args.places.now c.args.rights (index + 1))) (sym c.sooner-best.ensures) (claim-more entries c.args.places.now c.args.rights index entry c.loop-index.best c.claim_of.result here c.loop-index.invariant c.claim_of.ensures)

pub returns : goal.returns
returns c =
    let end : c.loop-index.index ≡ length c.args.entries.now = omega arith in
    subst (λ n. IsSoonest (IsClaim c.args.entries.now c.args.places.now c.args.rights n) c.loop-index.best) end c.loop-index.invariant
