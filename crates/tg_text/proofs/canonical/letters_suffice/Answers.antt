use Rattle.std.proofs.Common.{arith, sym, ap, ◌∙◌}
use Rattle.std.proofs.lemmas.List.{take_all}
use Rattle.tg_text.proofs.Labels.{rows_suffice, rows-fail, rows-more, rows-suffice}
use Rattle.tg_text.proofs.canonical.letters_suffice.Goals as goal

pub returns-then-not-row_letters_suffice : goal.returns-then-not-row_letters_suffice
returns-then-not-row_letters_suffice c =
    let es = c.args.graph.now in
    let failed = rows-fail c.args.version es c.loop-vertex.vertex (sym c.row_letters_suffice.ensures ∙ c.if-not-row_letters_suffice.true) in
    sym failed ∙ rows-suffice c.args.version es c.requires

pub loop-vertex-preserved : goal.loop-vertex-preserved
loop-vertex-preserved c =
    rows-more c.args.version c.args.graph.now c.loop-vertex.vertex (omega (arith, c.len-vertex-end.ensures.value)) c.loop-vertex.invariant (sym c.row_letters_suffice.ensures ∙ c.if-not-row_letters_suffice.false)

pub returns : goal.returns
returns c =
    let es = c.args.graph.now in
    let all = ap (rows_suffice c.args.version) (take_all c.loop-vertex.vertex es (omega (arith, c.len-vertex-end.ensures.value))) in
    sym c.loop-vertex.invariant ∙ (all ∙ rows-suffice c.args.version es c.requires)
