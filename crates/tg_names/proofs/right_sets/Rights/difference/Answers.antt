use Rattle.std.proofs.Common.{◌∙◌, sym, not, ◌&&◌, arith}
use Rattle.tg_names.specs.Sets.{member, rights_where}
use Rattle.tg_names.proofs.Sets.{same_set, member-difference, member-where, named-difference, named-where}
use Rattle.tg_names.proofs.right_sets.Rights.difference.Goals as goal

pub returns-clause-set : goal.returns-clause-set
returns-clause-set c =
    let r = c.difference.result in
    let s = c.args.self in
    let held = c.args.other in
    same_set r (rights_where (λ right. member s right && not (member held right)))
    (λ right. member-difference s held r (c.difference.ensures tt) (omega (arith, c.requires.other_named)) right ∙ sym (member-where (λ right. member s right && not (member held right)) right))
    (named-difference s held r (c.difference.ensures tt) c.requires.named) (named-where (λ right. member s right && not (member held right)))

pub returns-clause-named : goal.returns-clause-named
returns-clause-named c = named-difference c.args.self c.args.other c.difference.result (c.difference.ensures tt) c.requires.named
