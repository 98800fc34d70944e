use Rattle.std.proofs.Common.{ap, ◌∙◌, length, arith}
use Rattle.std.specs.Map.{keys_of}
use Rattle.std.proofs.lemmas.List.{length-map}
use Rattle.std.proofs.lemmas.Option.{slice_get_within}
use Rattle.indexmap.specs.Layout.{length-set_value_at}
use Rattle.tg_graph.proofs.TakenOver.{set-at}
use Rattle.tg_graph.proofs.row_maps.put_taken.Goals as goal

pub set_at-requires : goal.set_at-requires
set_at-requires c =
    let es = c.args.rows.now.entries in
    let within = slice_get_within (keys_of es) c.args.taken.place c.args.taken.name (c.stands_at.ensures.stands c.if-stands_at.true) in
    omega (arith, within, length-map es (λ e. e.0))

pub returns-then-stands_at-clause-put : goal.returns-then-stands_at-clause-put
returns-then-stands_at-clause-put c =
    c.set_at.ensures.set
    ∙ set-at c.args.rows.now.entries c.args.taken.place c.args.taken.name c.args.taken.row c.stands_at.ensures.apart (c.stands_at.ensures.stands c.if-stands_at.true)

pub returns-then-stands_at-clause-room : goal.returns-then-stands_at-clause-room
returns-then-stands_at-clause-room c =
    omega (arith, ap length c.set_at.ensures.set, length-set_value_at c.args.rows.now.entries c.args.taken.place c.args.taken.row, c.set_at.ensures.room)
