use Rattle.tg_reports.proofs.CutTexts.{cuts_make_no, cut_texts_make_no, cuts_fit}
use Rattle.tg_reports.proofs.laws.cuts_make_it_no.Goals as goal

pub returns-clause-no : goal.returns-clause-no
returns-clause-no c = cuts_make_no

pub returns-clause-texts : goal.returns-clause-texts
returns-clause-texts c = cut_texts_make_no

pub returns-clause-fit : goal.returns-clause-fit
returns-clause-fit c = cuts_fit
