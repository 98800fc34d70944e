use Rattle.std.proofs.Common.{◌≡◌, ◌∙◌, length, subst, arith}
use Rattle.tg_rows.specs.Rows.{row_number}
use Rattle.tg_sharing.specs.Flooding.{MeetsEnds}
use Rattle.tg_sharing.proofs.FloodSteps.{ends-none, ends-next}
use Rattle.tg_sharing.proofs.flooding.Flood.meet_row.Goals as goal

pub loop-place-init : goal.loop-place-init
loop-place-init c = ends-none c.args.graph.now c.args.position c.args.self.now

pub meet_end-requires-clause-len : goal.meet_end-requires-clause-len
meet_end-requires-clause-len c = c.loop-place.invariant.meets.len ∙ c.requires

pub loop-place-preserved : goal.loop-place-preserved
loop-place-preserved c = ends-next c.args.graph.now c.args.position c.loop-place.place c.args.self.now c.loop-place.self c.meet_end.new.self c.loop-place.invariant c.in_ok-meet_end.ensures

pub returns : goal.returns
returns c =
    let end : c.loop-place.place ≡ length (row_number c.args.graph.now c.args.position) = omega (arith, c.row_len-place-end.ensures) in
    subst (λ n. MeetsEnds c.args.graph.now c.args.position n c.args.self.now c.loop-place.self) end c.loop-place.invariant
