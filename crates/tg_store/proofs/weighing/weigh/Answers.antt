use Rattle.std.proofs.Common.{◌≡◌, None, refl, sym, ◌∙◌}
use Rattle.std.proofs.lemmas.Bool.{false≢true}
use Rattle.tg_graph.specs.GraphOf.{graph_of}
use Rattle.tg_hall.specs.Touches.{spoiler}
use Rattle.tg_store.proofs.Weighed.{crowds-with}
use Rattle.tg_store.proofs.weighing.weigh.Goals as goal

pub returns-then-overfills : goal.returns-then-overfills
returns-then-overfills c =
    let g = graph_of c.args.base.now in
    let committed = c.args.committed.now in
    let session = c.args.session.now in
    let none : spoiler g committed session ≡ None = sym c.in_ok-name.ensures.name ∙ c.in_default.is in
    let drawn = c.in_ok-name.ensures.drawn c.in_default.is in
    (refl, (none, (crowds-with g _ committed session c.len.ensures.graph.apart none c.requires.session drawn.stands).0 (c.overfills.ensures.0 c.if-overfills.true)))

pub returns : goal.returns
returns c =
    let g = graph_of c.args.base.now in
    let committed = c.args.committed.now in
    let session = c.args.session.now in
    let none : spoiler g committed session ≡ None = sym c.in_ok-name.ensures.name ∙ c.in_default.is in
    let drawn = c.in_ok-name.ensures.drawn c.in_default.is in
    ((none, λ crowded. false≢true (sym c.if-overfills.false ∙ c.overfills.ensures.1 ((crowds-with g _ committed session c.len.ensures.graph.apart none c.requires.session drawn.stands).1 crowded))), drawn)

pub overfills-requires : goal.overfills-requires
overfills-requires c = (c.in_ok-name.ensures.drawn c.in_default.is).fits
