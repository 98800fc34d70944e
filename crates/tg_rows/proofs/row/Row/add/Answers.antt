use Rattle.std.proofs.Common.{◌<◌, ◌∙◌, sym, ap, bit_or, unwrap_or, arith}
use Rattle.std.proofs.lemmas.Result.{on_ok_weaker}
use Rattle.std.proofs.lemmas.Bool.Decides.{nat_tests, Decides-eqb}
use Rattle.tg_rows.proofs.Places.{gap-lookup}
use Rattle.tg_rows.proofs.Rows.{adds-from_puts, adds-new, adds-nothing, label-union}
use Rattle.tg_names.specs.Sets.{nothing}
use Rattle.tg_names.specs.declared.right_sets.Rights.{Rights}
use Rattle.tg_rows.proofs.row.Row.add.Goals as goal

pub returns-then-is_empty-clause-adds : goal.returns-then-is_empty-clause-adds
returns-then-is_empty-clause-adds c = adds-nothing c.args.self.now c.args.y c.args.rights ((Decides-eqb c.args.rights.0 0).0 (sym (c.is_empty.ensures tt) ∙ c.if-is_empty.true))

pub write-requires-clause-label : goal.write-requires-clause-label
write-requires-clause-label c =
    let e = sym (c.is_empty.ensures tt) ∙ c.if-is_empty.false in
    let some : 0 < c.args.rights.0 = grind (arith, nat_tests) in
    label-union c.label_at.result c.args.rights c.union-label.result (c.union-label.ensures tt) c.label_at.ensures.label.named (record { some = some; named = c.requires })

pub insert-requires-clause-label : goal.insert-requires-clause-label
insert-requires-clause-label c =
    let e = sym (c.is_empty.ensures tt) ∙ c.if-is_empty.false in
    let some : 0 < c.args.rights.0 = grind (arith, nat_tests) in
    record { some = some; named = c.requires }

pub returns-in-Ok-clause-adds : goal.returns-in-Ok-clause-adds
returns-in-Ok-clause-adds c =
    adds-from_puts c.args.self.now c.write.new.self c.args.y c.args.rights c.union-label.result
    (c.union-label.ensures tt ∙ ap (λ (r : Rights). bit_or r.0 c.args.rights.0) (sym (ap (λ o. unwrap_or o nothing) c.label_at.ensures.found)))
    c.write.ensures.puts

pub returns-in-Err-clause-adds : goal.returns-in-Err-clause-adds
returns-in-Err-clause-adds c =
    on_ok_weaker c.insert.result
    (adds-new c.args.self.now c.insert.new.self c.args.y c.args.rights (gap-lookup c.args.self.now c.args.y _ c.in-Err.ensures.absent))
    c.insert.ensures.puts
