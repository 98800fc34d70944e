use Rattle.std.proofs.Common.{◌++◌, ℕ, Vec, Global, take, vec_len, vec_capacity, arith, sym, ap, ◌∙◌}
use Rattle.std.specs.List.{flat_map}
use Rattle.std.proofs.lemmas.List.{append-nil, take_all, flat_map_more}
use Rattle.tg_rows.specs.Rows.{row_number}
use Rattle.tg_text.specs.Canonical.{edge_end}
use Rattle.tg_text.proofs.GraphLines.{found_row, no_row, is-row, label-at, row-text_some, row-text_none}
use Rattle.tg_text.proofs.RowLines.{edge_of, edge-parts, take_one, past_end}
use Rattle.tg_text.proofs.canonical.append_row.Goals as goal
use Rattle.tg_text.proofs.canonical.append_row.Goals.{in-Some-row_at, in_default-row_at}

pub returns-in_default : goal.returns-in_default
returns-in_default c =
    let es = c.args.graph.now in
    sym (append-nil c.args.text.now.items) ∙ ap (λ bs. c.args.text.now.items ++ bs) (sym (row-text_none es c.requires.graph c.args.source (no_row es c.requires.graph c.args.source (sym c.position.ensures ∙ c.in_default.is))))

pub loop-place-preserved : goal.loop-place-preserved
loop-place-preserved c =
    let es = c.args.graph.now in
    let row = row_number es c.in-Some.position in
    elim c.match-row_at.branch [
      | in-Some-row_at w ↦
          let edge = w.in-Some-row_at.edge in
          let found = found_row es c.requires.graph c.args.source c.in-Some.position (sym c.in-Some.ensures) in
          let label = label-at row c.loop-place.place edge (is-row es c.requires.graph c.args.source row found) (sym w.in-Some-row_at.ensures) in
          record {
            items =
                ap (λ (v : Vec ℕ Global). v.items) w.text-is ∙ w.append_edge.ensures.items
                ∙ ap (λ front. c.loop-place.text.items ++ (front ++ edge_end edge.0 edge.1)) c.requires.front
                ∙ ap (λ line. c.loop-place.text.items ++ line) (edge-parts c.args.source edge label)
                ∙ ap (λ bs. bs ++ edge_of c.args.source edge) c.loop-place.invariant.items
                ∙ flat_map_more (edge_of c.args.source) c.args.text.now.items (take c.loop-place.place row) edge
                ∙ ap (λ es. c.args.text.now.items ++ flat_map (edge_of c.args.source) es) (sym (take_one row c.loop-place.place edge (sym w.in-Some-row_at.ensures)));
            room = omega (arith, c.loop-place-test.true, c.loop-place.invariant.room, c.requires.short, w.append_edge.ensures.len, w.append_edge.ensures.capacity, ap vec_len w.text-is, ap vec_capacity w.text-is);
          }
      | in_default-row_at w ↦ absurd (past_end row c.loop-place.place (omega (arith, c.row_len-count.ensures)) (sym c.row_at.ensures ∙ w.in_default-row_at.is))
    ]

pub returns : goal.returns
returns c =
    let es = c.args.graph.now in
    let row = row_number es c.in-Some.position in
    let found = found_row es c.requires.graph c.args.source c.in-Some.position (sym c.in-Some.ensures) in
    c.loop-place.invariant.items
    ∙ ap (λ es. c.args.text.now.items ++ flat_map (edge_of c.args.source) es) (take_all c.loop-place.place row (omega (arith, c.row_len-count.ensures)))
    ∙ ap (λ bs. c.args.text.now.items ++ bs) (sym (row-text_some es c.requires.graph c.args.source row found))
