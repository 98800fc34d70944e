use Rattle.std.proofs.Common.{◌≡◌, length, sym, ◌∙◌, ap, arith, map, take, refl}
use Rattle.tg_journal.proofs.Rows.{take_more_get, take_more_some, values-Some, AllKnown-of, map_push}
use Rattle.std.specs.List.{slice_get}
use Rattle.tg_journal.specs.Known.{values}
use Rattle.tg_journal.proofs.NoteFields.{cell_of, known_of}
use Rattle.std.proofs.lemmas.List.{take_all}
use Rattle.tg_journal.proofs.journal.Journal.front.Goals as goal

pub loop-place-preserved : goal.loop-place-preserved
loop-place-preserved g c = record {
  cells = ap (map cell_of) c.in_ok-push.ensures.items ∙ map_push cell_of c.loop-place.notes.items c.note.result _ _ c.loop-place.invariant.cells refl ∙ sym (take_more_get _ c.loop-place.place _ (ap (λ k. slice_get k c.loop-place.place) (sym c.requires) ∙ c.note.ensures.cell));
  known = ap (map known_of) c.in_ok-push.ensures.items ∙ map_push known_of c.loop-place.notes.items c.note.result _ _ c.loop-place.invariant.known c.note.ensures.known ∙ sym (take_more_some c.args.pass.now.seen c.loop-place.place (omega arith));
}

pub invariant_of-result : goal.invariant_of-result
invariant_of-result g c = AllKnown-of _ _ c.loop-place.invariant.known

pub returns-clause-seen : goal.returns-clause-seen
returns-clause-seen g c =
    ap values c.loop-place.invariant.known ∙ values-Some (take c.loop-place.place c.args.pass.now.seen) ∙ take_all c.loop-place.place c.args.pass.now.seen (omega arith)

pub returns-clause-cells : goal.returns-clause-cells
returns-clause-cells g c =
    let seen = ap values c.loop-place.invariant.known ∙ values-Some (take c.loop-place.place c.args.pass.now.seen) ∙ take_all c.loop-place.place c.args.pass.now.seen (omega arith) in
    let size : c.loop-place.place ≡ length c.args.pass.now.seen = omega arith in
    c.loop-place.invariant.cells ∙ ap (λ n. take n c.args.self.now) (size ∙ sym (ap length seen))
