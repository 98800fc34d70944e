use Rattle.std.proofs.Common.{◌||◌, get_or, sym, ap, subst, ◌∙◌}
use Rattle.std.proofs.lemmas.Option.{slice_get-get_or}
use Rattle.tg_names.specs.declared.right_sets.Right.{Right}
use Rattle.tg_names.specs.declared.right_sets.Rights.{Rights}
use Rattle.tg_names.specs.Sets.{member, IsNamed}
use Rattle.tg_names.proofs.Sets.{member-union, named-union}
use Rattle.tg_index.specs.declared.by_target.Held.{Held}
use Rattle.tg_analysis.proofs.Claims.{no_entry, joins-more}
use Rattle.tg_analysis.proofs.held.add_entry.Goals as goal

pub returns : goal.returns
returns c =
    let entries = c.args.entries.now in
    let index = c.args.index in
    let entry : Held = get_or entries index no_entry in
    let here = slice_get-get_or entries index no_entry c.requires.within in
    let old = c.args.held.now in
    let label = c.named.result in
    let joined = c.union-rights.result in
    let under = c.rights_under.result in
    let has = λ (right : Right). member-union under label joined c.union-rights.ensures.bits right ∙ ap (λ (s : Rights). member s right || member label right) c.rights_under.ensures in
    let named = named-union under label joined c.union-rights.ensures.bits (subst IsNamed (sym c.rights_under.ensures) (c.requires.so_far.named entry.number)) c.named.ensures.named in
    let updates = c.in_ok-insert.ensures.updates in
    joins-more entries index entry here old c.insert.new.self label joined c.requires.so_far c.named.ensures.members has named updates.1 updates.2
