use Rattle.std.proofs.Common.{◌<◌, ◌+◌, ◌-◌, ◌/◌, ℕ, arith, sym, ap, ◌∙◌}
use Rattle.std.specs.Ordering.{is_gt}
use Rattle.tg_rows.proofs.Places.{above_from_first}
use Rattle.tg_rows.proofs.row.Row.halve_up_to.Goals as goal

between : (low high : ℕ) → low < high → low + (high - low) / 2 < high
between low high h = omega arith

pub loop-high-init : goal.loop-high-init
loop-high-init c = record {
  order = omega arith;
  within = omega (arith, c.len-high.ensures);
  last = λ d b. absurd (omega arith);
  above = λ k d a b. absurd (omega (arith, c.len-high.ensures));
}

pub target-requires : goal.target-requires
target-requires c = omega (arith, between c.loop-high.low c.loop-high.high (omega arith), c.loop-high.invariant.within)

pub loop-high-preserved-then-is_gt : goal.loop-high-preserved-then-is_gt
loop-high-preserved-then-is_gt c =
    let held = c.loop-high.invariant in
    let row = c.self.inside.edges in
    let inside = between c.loop-high.low c.loop-high.high (omega arith) in
    record {
      order = omega arith;
      within = omega (arith, inside, held.within);
      last = held.last;
      above = above_from_first row c.args.y _ c.target.result c.self.invariant.sorted (omega (arith, inside, held.within)) c.target.ensures (sym (c.is_gt.ensures ∙ ap is_gt c.cmp.ensures) ∙ c.if-is_gt.true);
    }
