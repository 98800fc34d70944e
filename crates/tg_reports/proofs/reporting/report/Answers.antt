use Rattle.std.proofs.Common.{ℕ, List, map, Bor, Err, ap, sym, ◌∙◌, rules, subst}
use Rattle.tg_inputs.specs.declared.words.Command.{Command}
use Rattle.tg_inputs.specs.Calls.{command_words}
use Rattle.tg_inputs.specs.Readings.{PolicyOver, graph_in, question_in, table_in, who_in, reach_in, policy_in, cut_in}
use Rattle.tg_inputs.specs.Outcomes.{report_text}
use Rattle.tg_inputs.proofs.MadeReports.{made-report, made-refusal}
use Rattle.tg_policies.specs.Policies.{IsVerified}
use Rattle.tg_plays.specs.Runs.{Playing, playing_in, IsPlayed}
use Rattle.tg_reports.specs.Reports.{AreIslandLines, AreReachLines, AreTableLines, AreWhoLines, IsAnswer, IsCut, IsDerived, IsReport}
use Rattle.tg_reports.proofs.reporting.report.Goals as goal
use Rattle.tg_reports.proofs.reporting.report.Goals.{in-Case, in-Check, in-Apply, in-Islands, in-Share, in-Derive, in-Table, in-Run, in-Who, in-Reach, in-Verify, in-Cut}

pub returns-in-Ok : goal.returns-in-Ok
returns-in-Ok g c =
    let first = c.args.first.now in
    let second = c.args.second.now in
    let P : Command → Type 0 = λ command. IsReport (command_words command) first second (report_text c.in-Ok.report) in
    elim c.match-command.branch [
      | in-Case w ↦ search rules
      | in-Check w ↦ search rules
      | in-Apply w ↦ search rules
      | in-Islands w ↦ subst P (sym w.in-Islands.is) (made-report AreIslandLines (graph_in first) w.islands_of-made.result c.in-Ok.report w.islands_of-made.ensures (sym w.made-is ∙ c.in-Ok.is))
      | in-Share w ↦ subst P (sym w.in-Share.is) (made-report IsAnswer (question_in first w.in-Share.rights.now w.in-Share.x.now w.in-Share.y.now) w.share-made.result c.in-Ok.report w.share-made.ensures (sym w.made-is ∙ c.in-Ok.is))
      | in-Derive w ↦ subst P (sym w.in-Derive.is) (made-report IsDerived (question_in first w.in-Derive.rights.now w.in-Derive.x.now w.in-Derive.y.now) w.derive-made.result c.in-Ok.report w.derive-made.ensures (sym w.made-is ∙ c.in-Ok.is))
      | in-Table w ↦ subst P (sym w.in-Table.is) (made-report AreTableLines (table_in first w.in-Table.right.now w.in-Table.workers) w.table-made.result c.in-Ok.report w.table-made.ensures (sym w.made-is ∙ c.in-Ok.is))
      | in-Run w ↦ subst P (sym w.in-Run.is) (made-report (λ (p : Playing). IsPlayed p.graph p.script) (playing_in first second) w.run-made.result c.in-Ok.report w.run-made.ensures (sym w.made-is ∙ c.in-Ok.is))
      | in-Who w ↦ subst P (sym w.in-Who.is) (made-report AreWhoLines (who_in first w.in-Who.rights.now w.in-Who.y.now) w.who-made.result c.in-Ok.report w.who-made.ensures (sym w.made-is ∙ c.in-Ok.is))
      | in-Reach w ↦ subst P (sym w.in-Reach.is) (made-report AreReachLines (reach_in first w.in-Reach.x.now) w.reach-made.result c.in-Ok.report w.reach-made.ensures (sym w.made-is ∙ c.in-Ok.is))
      | in-Verify w ↦ subst P (sym w.in-Verify.is) (made-report (λ (p : PolicyOver). IsVerified w.in-Verify.why p.graph p.lines) (policy_in first second) w.verify-made.result c.in-Ok.report w.verify-made.ensures (sym w.made-is ∙ c.in-Ok.is))
      | in-Cut w ↦ subst P (sym w.in-Cut.is) (made-report IsCut (cut_in first w.in-Cut.right.now w.in-Cut.x.now w.in-Cut.y.now (map (λ (word : Bor (List ℕ)). word.now) w.in-Cut.kept.now)) w.cut-made.result c.in-Ok.report w.cut-made.ensures (sym w.made-is ∙ c.in-Ok.is))
    ]

pub returns-in-Err-Refused : goal.returns-in-Err-Refused
returns-in-Err-Refused g c =
    let first = c.args.first.now in
    let second = c.args.second.now in
    let P : Command → Type 0 = λ command. IsReport (command_words command) first second (report_text c.in-Err-Refused.report) in
    elim c.match-command.branch [
      | in-Case w ↦ search rules
      | in-Check w ↦ search rules
      | in-Apply w ↦ search rules
      | in-Islands w ↦ subst P (sym w.in-Islands.is) (made-refusal AreIslandLines (graph_in first) w.islands_of-made.result c.in-Err-Refused.report w.islands_of-made.ensures (sym w.made-is ∙ c.in-Err-Refused.is ∙ ap Err c.in-Err-Refused.field-0-is))
      | in-Share w ↦ subst P (sym w.in-Share.is) (made-refusal IsAnswer (question_in first w.in-Share.rights.now w.in-Share.x.now w.in-Share.y.now) w.share-made.result c.in-Err-Refused.report w.share-made.ensures (sym w.made-is ∙ c.in-Err-Refused.is ∙ ap Err c.in-Err-Refused.field-0-is))
      | in-Derive w ↦ subst P (sym w.in-Derive.is) (made-refusal IsDerived (question_in first w.in-Derive.rights.now w.in-Derive.x.now w.in-Derive.y.now) w.derive-made.result c.in-Err-Refused.report w.derive-made.ensures (sym w.made-is ∙ c.in-Err-Refused.is ∙ ap Err c.in-Err-Refused.field-0-is))
      | in-Table w ↦ subst P (sym w.in-Table.is) (made-refusal AreTableLines (table_in first w.in-Table.right.now w.in-Table.workers) w.table-made.result c.in-Err-Refused.report w.table-made.ensures (sym w.made-is ∙ c.in-Err-Refused.is ∙ ap Err c.in-Err-Refused.field-0-is))
      | in-Run w ↦ subst P (sym w.in-Run.is) (made-refusal (λ (p : Playing). IsPlayed p.graph p.script) (playing_in first second) w.run-made.result c.in-Err-Refused.report w.run-made.ensures (sym w.made-is ∙ c.in-Err-Refused.is ∙ ap Err c.in-Err-Refused.field-0-is))
      | in-Who w ↦ subst P (sym w.in-Who.is) (made-refusal AreWhoLines (who_in first w.in-Who.rights.now w.in-Who.y.now) w.who-made.result c.in-Err-Refused.report w.who-made.ensures (sym w.made-is ∙ c.in-Err-Refused.is ∙ ap Err c.in-Err-Refused.field-0-is))
      | in-Reach w ↦ subst P (sym w.in-Reach.is) (made-refusal AreReachLines (reach_in first w.in-Reach.x.now) w.reach-made.result c.in-Err-Refused.report w.reach-made.ensures (sym w.made-is ∙ c.in-Err-Refused.is ∙ ap Err c.in-Err-Refused.field-0-is))
      | in-Verify w ↦ subst P (sym w.in-Verify.is) (made-refusal (λ (p : PolicyOver). IsVerified w.in-Verify.why p.graph p.lines) (policy_in first second) w.verify-made.result c.in-Err-Refused.report w.verify-made.ensures (sym w.made-is ∙ c.in-Err-Refused.is ∙ ap Err c.in-Err-Refused.field-0-is))
      | in-Cut w ↦ subst P (sym w.in-Cut.is) (made-refusal IsCut (cut_in first w.in-Cut.right.now w.in-Cut.x.now w.in-Cut.y.now (map (λ (word : Bor (List ℕ)). word.now) w.in-Cut.kept.now)) w.cut-made.result c.in-Err-Refused.report w.cut-made.ensures (sym w.made-is ∙ c.in-Err-Refused.is ∙ ap Err c.in-Err-Refused.field-0-is))
    ]
