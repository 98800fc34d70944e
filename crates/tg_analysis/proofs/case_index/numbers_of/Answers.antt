use Rattle.std.proofs.Common.{length, refl, sym, ◌∙◌}
use Rattle.std.specs.Map.{keys_of}
use Rattle.std.proofs.lemmas.Option.{slice_get_read}
use Rattle.tg_index.proofs.ByTarget.{numbered-none}
use Rattle.tg_analysis.proofs.Claims.{numbers-more}
use Rattle.tg_analysis.proofs.case_index.numbers_of.Goals as goal

pub unreachable-requires : goal.unreachable-requires
unreachable-requires c =
    let names = c.args.names.now in
    let name = c.index-names-place.result in
    let at = slice_get_read names (length names) c.loop-place.place name refl c.loop-place-test.true c.index-names-place.is in
    numbered-none c.args.graph.now c.args.islands.now c.requires.islands.len name (c.requires.known c.loop-place.place name at) (sym c.number_of.ensures ∙ c.in_default.is)

pub loop-place-preserved : goal.loop-place-preserved
loop-place-preserved c =
    let names = c.args.names.now in
    let name = c.index-names-place.result in
    let at = slice_get_read names (length names) c.loop-place.place name refl c.loop-place-test.true c.index-names-place.is in
    numbers-more (keys_of c.args.graph.now) c.args.islands.now names c.loop-place.place c.loop-place.numbers.items c.push.new.self.items c.in-Some.number name c.loop-place.invariant at (sym c.number_of.ensures ∙ c.in-Some.is) c.in_ok-push.ensures.items
