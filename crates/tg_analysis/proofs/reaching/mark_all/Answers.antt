use Rattle.std.proofs.Common.{◌<◌, ◌^◌, length, arith, subst}
use Rattle.std.specs.Map.{keys_of}
use Rattle.std.proofs.lemmas.Map.Entries.{length-keys_of}
use Rattle.tg_analysis.specs.Reaching.{MarkUpTo}
use Rattle.tg_analysis.proofs.Reached.{who-exact}
use Rattle.tg_analysis.proofs.reaching.mark_all.Goals as goal

pub returns : goal.returns
returns c =
    let g = c.args.graph.now in
    let few : length (keys_of g) < 2 ^ 64 = omega (arith, c.len.type_inv, c.len.ensures.value, length-keys_of g) in
    let islands = c.in_ok-islands.islands in
    let marked = subst (λ sets. MarkUpTo islands sets c.named.result (length islands) c.in_ok-marks.marks.items) c.as_slice.ensures.value c.in_ok-marks.ensures in
    who-exact g c.len.ensures.graph c.len.ensures.well_formed c.shared_exactly.ensures few islands c.in_ok-islands.ensures c.together.ensures c.args.rights c.named.result c.named.ensures.members c.args.y c.requires c.in_ok-held.held.items c.in_ok-held.ensures c.in_ok-marks.marks.items marked
