use Rattle.std.proofs.Common.{◌<◌, ◌∙◌, sym, ap, bit_and, w8, unwrap_or, arith}
use Rattle.std.specs.Int.{bit_not}
use Rattle.std.proofs.lemmas.Bool.Decides.{nat_tests, Decides-eqb}
use Rattle.tg_names.specs.Sets.{nothing}
use Rattle.tg_names.specs.declared.right_sets.Rights.{Rights}
use Rattle.tg_names.proofs.Sets.{named-difference}
use Rattle.tg_rows.proofs.Places.{gap-lookup}
use Rattle.tg_rows.proofs.Rows.{taken-left, taken-whole, takes-nothing}
use Rattle.tg_rows.proofs.row.Row.take.Goals as goal

pub write-requires-clause-label : goal.write-requires-clause-label
write-requires-clause-label c =
    let e = sym (c.is_empty.ensures tt) ∙ c.if-is_empty.false in
    let some : 0 < c.difference-left.result.0 = grind (arith, nat_tests) in
    record { some = some; named = named-difference c.label_at.result c.args.rights c.difference-left.result (c.difference-left.ensures tt) c.label_at.ensures.label.named }

pub returns-in_ok-cut-clause-taken : goal.returns-in_ok-cut-clause-taken
returns-in_ok-cut-clause-taken c =
    taken-whole c.args.self.now c.cut.new.self c.args.y c.args.rights c.difference-left.result
    (c.difference-left.ensures tt ∙ ap (λ (r : Rights). bit_and r.0 (bit_not w8 c.args.rights.0)) (sym (ap (λ o. unwrap_or o nothing) c.label_at.ensures.found))) c.requires
    ((Decides-eqb c.difference-left.result.0 0).0 (sym (c.is_empty.ensures tt) ∙ c.if-is_empty.true)) c.in_ok-cut.ensures.puts

pub returns-else-is_empty-clause-taken : goal.returns-else-is_empty-clause-taken
returns-else-is_empty-clause-taken c =
    let e = sym (c.is_empty.ensures tt) ∙ c.if-is_empty.false in
    let some : 0 < c.difference-left.result.0 = grind (arith, nat_tests) in
    taken-left c.args.self.now c.write.new.self c.args.y c.args.rights c.difference-left.result
    (c.difference-left.ensures tt ∙ ap (λ (r : Rights). bit_and r.0 (bit_not w8 c.args.rights.0)) (sym (ap (λ o. unwrap_or o nothing) c.label_at.ensures.found))) c.requires some c.write.ensures.puts

pub returns-in_default-clause-taken : goal.returns-in_default-clause-taken
returns-in_default-clause-taken c = takes-nothing c.args.self.now c.args.y c.args.rights (gap-lookup c.args.self.now c.args.y _ c.in_default.ensures.absent)
