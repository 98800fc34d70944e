use Rattle.std.proofs.Common.{List, subst}
use Rattle.std.specs.Prelude.{MatchOption}
use Rattle.tg_cuts.specs.declared.kept.Ends.{Ends}
use Rattle.tg_cuts.specs.Cuts.{IsTheCut, HasNoCut}
use Rattle.tg_inputs.specs.Outcomes.{cut_question_of}
use Rattle.tg_reports.proofs.cut_lines.rules_of.Goals as goal

pub returns-in-Ok : goal.returns-in-Ok
returns-in-Ok c =
    let q = cut_question_of c.args.question.now in
    subst (λ (kept : List Ends). MatchOption c.in-Ok.rules (HasNoCut q.graph q.right q.x q.y kept) (λ rules. IsTheCut q.graph q.right q.x q.y kept rules.items)) c.deref.ensures.value c.in-Ok.ensures.cut
