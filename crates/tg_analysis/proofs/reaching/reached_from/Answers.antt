use Rattle.std.proofs.Common.{◌<◌, ◌^◌, length, arith, sym, ◌∙◌}
use Rattle.std.specs.Map.{keys_of}
use Rattle.std.proofs.lemmas.Map.Entries.{length-keys_of}
use Rattle.tg_graph.proofs.Positions.{at-position}
use Rattle.tg_index.proofs.ByTarget.{numbered, numbered-none}
use Rattle.tg_analysis.proofs.Reached.{reach-exact}
use Rattle.tg_analysis.proofs.reaching.reached_from.Goals as goal

pub unreachable-requires : goal.unreachable-requires
unreachable-requires c =
    numbered-none c.args.graph.now c.in_ok-islands.islands c.in_ok-islands.ensures.len c.args.x c.requires (sym c.number_of.ensures ∙ c.in_default.is)

pub returns : goal.returns
returns c =
    let g = c.args.graph.now in
    let few : length (keys_of g) < 2 ^ 64 = omega (arith, c.len.type_inv, c.len.ensures.value, length-keys_of g) in
    let islands = c.in_ok-islands.islands in
    let from = numbered g islands c.in_ok-islands.ensures.len c.args.x c.in-Some.number (sym c.number_of.ensures ∙ c.in-Some.is) in
    reach-exact g c.len.ensures.graph c.len.ensures.well_formed c.shared_exactly.ensures few islands c.in_ok-islands.ensures c.in-Some.number from.0 c.args.x (at-position (keys_of g) c.args.x from.0 from.1) from.2 c.in_ok-sets.sets.items c.in_ok-sets.ensures
