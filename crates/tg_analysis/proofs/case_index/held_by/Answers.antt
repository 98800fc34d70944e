use Rattle.std.proofs.Common.{◌↔◌, ℕ, List, length, refl, sym, subst, ◌∙◌}
use Rattle.std.specs.Map.{keys_of}
use Rattle.std.proofs.lemmas.Option.{slice_get_read}
use Rattle.tg_names.specs.declared.right_sets.Right.{Right}
use Rattle.tg_index.specs.declared.by_target.Held.{Held}
use Rattle.tg_index.specs.ByTarget.{Leads}
use Rattle.tg_index.specs.HeldInto.{IsSaid}
use Rattle.tg_islands.proofs.RowEnds.{found}
use Rattle.tg_analysis.proofs.HeldEntries.{over-more, through}
use Rattle.tg_analysis.proofs.case_index.held_by.Goals as goal

pub unreachable-requires : goal.unreachable-requires
unreachable-requires c =
    let names = c.args.names.now in
    let name = c.index-names-place.result in
    let at = slice_get_read names (length names) c.loop-place.place name refl c.loop-place-test.true c.index-names-place.is in
    let there = found (keys_of c.args.graph.now) name (c.requires.known c.loop-place.place name at) in
    let none = sym c.position.ensures ∙ c.in_default.is in
    let some = there.1 in cc

pub loop-place-preserved : goal.loop-place-preserved
loop-place-preserved c =
    let names = c.args.names.now in
    let name = c.index-names-place.result in
    let at = slice_get_read names (length names) c.loop-place.place name refl c.loop-place-test.true c.index-names-place.is in
    let target = c.in-Some.target in
    let islands = c.args.islands.now in
    let edges = c.args.edges.now in
    let entries = c.in_ok-entries.entries.items in
    let joined = c.in_ok-joined.joined in
    let here = λ (right : Right) (number : ℕ). through (IsSaid joined right number) (IsSaid entries right number) (Leads islands right number target edges) (subst (λ (es : List Held). IsSaid joined right number ↔ IsSaid es right number) c.as_slice.ensures.value (c.in_ok-joined.ensures.said right number)) (c.in_ok-entries.ensures right number) in
    over-more (keys_of c.args.graph.now) islands edges names c.loop-place.place target name c.loop-place.held.items c.push.new.self.items joined c.loop-place.invariant at (sym c.position.ensures ∙ c.in-Some.is) here c.in_ok-joined.ensures.rising c.in_ok-push.ensures.items
