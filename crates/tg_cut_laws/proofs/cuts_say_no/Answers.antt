use Rattle.tg_cut_laws.proofs.OneCut.{no-rule-where-no, not-both}
use Rattle.tg_cut_laws.proofs.cuts_say_no.Goals as goal

pub returns-clause-no_rule : goal.returns-clause-no_rule
returns-clause-no_rule c = no-rule-where-no

pub returns-clause-not_both : goal.returns-clause-not_both
returns-clause-not_both c = not-both
