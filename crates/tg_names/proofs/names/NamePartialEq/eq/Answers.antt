use Rattle.std.proofs.Common.{sym, ◌∙◌, nat_eq}
use Rattle.tg_names.proofs.NameNumbers.{equal_numbers}
use Rattle.tg_names.proofs.names.NamePartialEq.eq.Goals as goal

pub returns : goal.returns
returns c =
    let a = c.number.ensures in
    let b = c.number-2.ensures in
    (λ i. nat_eq (a.value i) (b.value i)) ∙ sym (equal_numbers c.args.self.now c.args.other.now a.valid b.valid)
