use Rattle.std.proofs.Common.{◌+◌, subst, add-one, arith}
use Rattle.std.proofs.lemmas.List.{take_rest}
use Rattle.tg_words.specs.Lines.{NoLineFeedBefore}
use Rattle.tg_words.proofs.Cuts.{line_at, one_line}
use Rattle.tg_words.proofs.lines.cut_line.Goals as goal

pub returns-then-end-text-clause-cut : goal.returns-then-end-text-clause-cut
returns-then-end-text-clause-cut c =
    let text = c.args.text.now in
    one_line text (subst (NoLineFeedBefore text) c.if-end-text.true c.line_end-end.ensures.1) c.requires

pub returns-clause-cut : goal.returns-clause-cut
returns-clause-cut c =
    let text = c.args.text.now in
    let end = c.line_end-end.result in
    rw (take_rest text (end + 1), add-one) (line_at text end c.line_end-end.ensures.1 (omega arith) (c.line_end-end.ensures.2 (omega arith)))
