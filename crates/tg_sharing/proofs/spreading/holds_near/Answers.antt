use Rattle.std.proofs.Common.{◌<◌, ◌^◌, length, sym, ◌∙◌, arith}
use Rattle.std.specs.Map.{keys_of}
use Rattle.std.proofs.lemmas.Map.Entries.{length-keys_of}
use Rattle.tg_graph.specs.GraphOf.{graph_of}
use Rattle.tg_graph.proofs.Positions.{at-position}
use Rattle.tg_sharing.proofs.Spreads.{spread-begins, all_held}
use Rattle.tg_sharing.proofs.spreading.holds_near.Goals as goal

pub run_for-requires-clause-spread : goal.run_for-requires-clause-spread
run_for-requires-clause-spread c = spread-begins c.args.graph.now c.len-count.ensures.graph c.args.asked.now c.in_ok-spread-in-Some.spread.missing c.args.asked.now.rights c.len-count.result c.in-Some.start c.in_ok-spread-in-Some.spread (c.len-count.ensures.value ∙ sym (length-keys_of c.args.graph.now)) (at-position (keys_of c.args.graph.now) c.args.asked.now.x c.in-Some.start (sym c.position.ensures ∙ c.in-Some.is)) c.in_ok-spread-in-Some.ensures

pub returns-in_ok-run_for-in-Some : goal.returns-in_ok-run_for-in-Some
returns-in_ok-run_for-in-Some c =
    let few : length (keys_of c.args.graph.now) < 2 ^ 64 = omega (arith, c.len-count.type_inv, c.len-count.ensures.value, length-keys_of c.args.graph.now) in
    let shared = c.together.ensures (graph_of c.args.graph.now) c.args.asked.now.rights c.args.asked.now.x c.args.asked.now.y c.len-count.ensures.well_formed few c.requires.source c.requires.target in
    λ yes. shared.1 (all_held c.args.graph.now c.len-count.ensures.graph c.args.asked.now c.run_for.new.self.missing (sym (c.is_empty.ensures tt) ∙ yes) c.in_ok-run_for-in-Some.ensures.missing)
