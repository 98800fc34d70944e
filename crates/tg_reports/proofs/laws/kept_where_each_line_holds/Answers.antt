use Rattle.tg_policies.proofs.VerdictLaws.{kept_exactly, verdicts_are_one}
use Rattle.tg_reports.proofs.KeptPolicies.{kept_policies_hold}
use Rattle.tg_reports.proofs.laws.kept_where_each_line_holds.Goals as goal

pub returns-clause-kept : goal.returns-clause-kept
returns-clause-kept c = kept_exactly

pub returns-clause-read : goal.returns-clause-read
returns-clause-read c = kept_policies_hold

pub returns-clause-one : goal.returns-clause-one
returns-clause-one c = verdicts_are_one
