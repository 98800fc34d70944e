use Rattle.std.proofs.Common.{◌≡◌, ◌<◌, ◌+◌, ◌++◌, ◌∷◌, [], length, take, get_or, arith, add-one, subst, sym, ap, ◌∙◌}
use Rattle.std.proofs.Math.Seq.{take-suc}
use Rattle.tg_islands.specs.Linked.{neighbours}
use Rattle.tg_sharing.specs.Flooding.{Meets}
use Rattle.tg_islands.specs.Positions.{IsOneOf}
use Rattle.tg_sharing.proofs.FloodSteps.{meets-more}
use Rattle.tg_islands.proofs.OneOf.{item-one_of}
use Rattle.tg_sharing.proofs.flooding.Flood.meet_neighbours.Goals as goal

pub meet-requires : goal.meet-requires
meet-requires c =
    let items = c.at-neighbour-items.result.now in
    let met = get_or items c.loop-neighbour.neighbour-index 0 in
    let among : IsOneOf met items = item-one_of items c.loop-neighbour.neighbour-index (omega (arith, c.loop-neighbour-test.true)) in
    let near : IsOneOf met (neighbours c.args.links.now c.args.position) = subst (IsOneOf met) c.at-neighbour-items.ensures among in
    let within = c.requires met near in
    omega (arith, within, c.loop-neighbour.invariant.len)

pub loop-neighbour-preserved : goal.loop-neighbour-preserved
loop-neighbour-preserved c =
    let index = c.loop-neighbour.neighbour-index in
    let items = c.at-neighbour-items.result.now in
    let now = neighbours c.args.links.now c.args.position in
    let more = meets-more (take index now) (get_or items index 0) c.args.self.now c.loop-neighbour.self c.meet.new.self c.loop-neighbour.invariant c.in_ok-meet.ensures in
    let short : index < length now = subst (λ xs. index < length xs) c.at-neighbour-items.ensures c.loop-neighbour-test.true in
    let same : take index now ++ get_or items index 0 ∷ [] ≡ take (index + 1) now =
    ap (λ xs. take index now ++ get_or xs index 0 ∷ []) c.at-neighbour-items.ensures ∙ sym (ap (λ n. take n now) (add-one index) ∙ take-suc now index 0 short) in
    subst (λ xs. Meets xs c.args.self.now c.meet.new.self) same more
