use Rattle.std.proofs.Common.{◌<◌, ◌≤◌, ◌∙◌, [], Some, sym, arith, length}
use Rattle.std.proofs.lemmas.Option.{slice_get-get_or, slice_get_past}
use Rattle.tg_names.specs.Sets.{nothing}
use Rattle.tg_rows.proofs.edges_to_all.EdgesToAll.at.Goals as goal

pub returns-then-place-len : goal.returns-then-place-len
returns-then-place-len c =
    let edges = c.args.self.now in
    let place = c.args.place in
    let within : place < length edges = omega (arith, c.if-place-len.true, c.len.ensures) in
    (λ i. Some (c.target.ensures ([], nothing) i, c.label.ensures ([], nothing) i)) ∙ sym (slice_get-get_or edges place ([], nothing) within)

pub returns-else-place-len : goal.returns-else-place-len
returns-else-place-len c =
    let past : length c.args.self.now ≤ c.args.place = omega (arith, c.if-place-len.false, c.len.ensures) in
    sym (slice_get_past c.args.self.now c.args.place past)
