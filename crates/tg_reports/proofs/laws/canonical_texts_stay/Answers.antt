use Rattle.std.proofs.Common.{ap, refl, ◌∙◌, Ok}
use Rattle.std.specs.Prelude.{codes}
use Rattle.tg_graph.specs.Graphs.{SameGraph}
use Rattle.tg_text.specs.Canonical.{canonical_text}
use Rattle.tg_words.specs.Reading.{◌>>=◌}
use Rattle.tg_text.specs.RoundTrips.{in_order}
use Rattle.tg_text_laws.proofs.GraphBack.{graph-back}
use Rattle.tg_text.proofs.NameOrder.{among-in_order}
use Rattle.tg_inputs.specs.Readings.{from_text}
use Rattle.tg_reports.proofs.laws.canonical_texts_stay.Goals as goal

pub returns : goal.returns
returns c = λ g w l.
    let same : SameGraph (in_order g) g = record { vertices = λ v. among-in_order v g.vertices; triples = λ u right v. refl } in
    ap (λ r. from_text (codes "graph") r >>= λ g. Ok (record { bytes = canonical_text g; status = 0 })) (graph-back g w l)
    ∙ ap (λ text. Ok (record { bytes = text; status = 0 })) (c.equal_graphs_have_one_text.ensures (in_order g) g same)
