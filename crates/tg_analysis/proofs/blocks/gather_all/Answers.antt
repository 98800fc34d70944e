use Rattle.std.proofs.Common.{◌≡◌, ◌≤◌, ◌+◌, ◌∷◌, [], length, arith, sym, ap, ◌∙◌}
use Rattle.std.proofs.lemmas.List.{length-append}
use Rattle.tg_analysis.proofs.Gathered.{one_count}
use Rattle.tg_analysis.proofs.Blocked.{blocks-none, blocks-all, blocks-fewer, blocks-last, blocks-joined}
use Rattle.tg_analysis.proofs.blocks.gather_all.Goals as goal

pub loop-block-init : goal.loop-block-init
loop-block-init g c =
    let all = sym c.in_ok-blocks.blocks.ok.0 ∙ c.in_ok-blocks.ensures.len in
    record {
      few = omega (arith, all);
      each = c.in_ok-blocks.ensures.each;
      held = blocks-none c.args.graph.now c.args.islands.now c.args.right c.args.workers c.requires.some (length c.in_ok-blocks.blocks.items) c.count.result c.in_ok-held.held all c.count.ensures c.in_ok-held.ensures;
    }

pub join-requires : goal.join-requires
join-requires g c =
    let last = blocks-last c.args.graph.now c.args.islands.now c.args.right c.args.workers c.requires.some c.loop-block.blocks.items c.pop.new.self.items c.in-Some.block c.in-Some.ensures.items c.loop-block.invariant.each c.in_ok-more.more c.in_ok-more.was in
    let same : length c.in_ok-more.more ≡ length c.loop-block.held = one_count c.args.islands.now _ _ last.counted c.loop-block.invariant.held.counted in
    omega (arith, same)

pub loop-block-preserved : goal.loop-block-preserved
loop-block-preserved g c =
    let last = blocks-last c.args.graph.now c.args.islands.now c.args.right c.args.workers c.requires.some c.loop-block.blocks.items c.pop.new.self.items c.in-Some.block c.in-Some.ensures.items c.loop-block.invariant.each c.in_ok-more.more c.in_ok-more.was in
    let next : length c.loop-block.blocks.items ≡ length c.pop.new.self.items + 1 = ap length c.in-Some.ensures.items ∙ length-append c.pop.new.self.items (c.in-Some.block ∷ []) in
    let within : length c.loop-block.blocks.items ≤ c.args.workers = c.loop-block.invariant.few in
    record {
      few = omega (arith, next, within);
      each = blocks-fewer c.args.graph.now c.args.islands.now c.args.right c.args.workers c.requires.some c.loop-block.blocks.items c.pop.new.self.items c.in-Some.block c.in-Some.ensures.items c.loop-block.invariant.each;
      held = blocks-joined c.args.graph.now c.args.islands.now c.args.right c.args.workers c.requires.some (length c.pop.new.self.items) (length c.loop-block.blocks.items) c.loop-block.held c.join.new.self c.in_ok-more.more next within c.loop-block.invariant.held last c.in_ok-join.ensures;
    }

pub returns : goal.returns
returns g c =
    let none : length c.loop-block.blocks.items ≡ 0 = sym c.loop-block.blocks.ok.0 ∙ c.in_default.ensures.cases.0 in
    blocks-all c.args.graph.now c.args.islands.now c.args.right c.args.workers c.requires.some (length c.loop-block.blocks.items) c.loop-block.held none c.loop-block.invariant.held
