use Rattle.std.proofs.Common.{◌≡◌, ◌∙◌, ◌^◌, sym, ap, true, false, Some}
use Rattle.tg_names.specs.declared.right_sets.Rights.{Rights}
use Rattle.tg_names.specs.Sets.{bit_of, is_empty_set, member, right_of_letter}
use Rattle.tg_names.specs.Letters.{set_of_right}
use Rattle.tg_names.proofs.Letters.{a_letter, no_letter, taken-step, new-step, same_union}
use Rattle.tg_names.proofs.Sets.{contains-one, named-union}
use Rattle.tg_names.proofs.right_sets.Rights.with_letter.Goals as goal
use Rattle.tg_names.proofs.right_sets.Rights.with_letter.Goals.{then-is_empty-via-then-is_empty, then-is_empty-via-else-is_empty+then-contains}

pub returns-then-is_empty-clause-value : goal.returns-then-is_empty-clause-value
returns-then-is_empty-clause-value c =
    let s = c.args.self in
    let letter = right_of_letter c.args.letter in
    let set = c.of_letter-right.ensures.set in
    elim c.then-is_empty.branch [
      | then-is_empty-via-then-is_empty w ↦ no_letter s letter (ap is_empty_set (sym set) ∙ sym (c.is_empty.ensures tt) ∙ w.if-is_empty.true)
      | then-is_empty-via-else-is_empty+then-contains w ↦
          let found = a_letter letter (ap is_empty_set (sym set) ∙ sym (c.is_empty.ensures tt) ∙ w.if-is_empty.false) in
          let bit = ap (λ (r : Rights). r.0) (set ∙ ap set_of_right found.1) in
          sym (taken-step s letter found.0 found.1 (sym (w.contains.ensures tt ∙ contains-one s c.of_letter-right.result found.0 bit) ∙ w.if-contains.true))
    ]

pub returns-clause-value : goal.returns-clause-value
returns-clause-value c =
    let s = c.args.self in
    let letter = right_of_letter c.args.letter in
    let set = c.of_letter-right.ensures.set in
    let found = a_letter letter (ap is_empty_set (sym set) ∙ sym (c.is_empty.ensures tt) ∙ c.if-is_empty.false) in
    let bit = ap (λ (r : Rights). r.0) (set ∙ ap set_of_right found.1) in
    let fresh = sym (c.contains.ensures tt ∙ contains-one s c.of_letter-right.result found.0 bit) ∙ c.if-contains.false in
    sym (new-step s letter found.0 found.1 fresh ∙ ap Some (same_union s c.of_letter-right.result c.union.result found.0 (c.union.ensures tt) bit))

pub returns-clause-named : goal.returns-clause-named
returns-clause-named c = named-union c.args.self c.of_letter-right.result c.union.result (c.union.ensures tt) c.requires c.of_letter-right.ensures.named
