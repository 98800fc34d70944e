use Rattle.std.proofs.Common.{◌≡◌, refl, subst, length, [], ◌∷◌, ◌++◌, sym, ◌∙◌, ap, arith}
use Rattle.tg_journal.proofs.Rows.{maps_read, maps_length, map_same, seen_more, first_same, known_there, view_same, knows_none, count_is, keeps_same, keeps_other, is_pass}
use Rattle.once_cell.specs.Once.{cell_name}
use Rattle.tg_journal.specs.Pass.{IsPass}
use Rattle.tg_journal.specs.Known.{values}
use Rattle.tg_journal.proofs.NoteFields.{cell_of, known_of}
use Rattle.tg_journal.proofs.Rows.{remembers, agreed, others_stay}
use Rattle.std.specs.List.{slice_get}
use Rattle.std.proofs.lemmas.List.{length-map}
use Rattle.std.proofs.lemmas.Option.{slice_get_within}
use Rattle.std.specs.declared.option.Option.TheVariants.{Some}
use Rattle.tg_journal.proofs.journal.Journal.next.Goals as goal

pub get_as-requires : goal.get_as-requires
get_as-requires g c = maps_read cell_of cell_name _ _ c.pass.inside.count _ _ (ap (λ k. k.cells) c.pass.view_is ∙ c.requires ∙ sym c.self.view_is) (omega arith) c.index_mut.ensures.value c.index.ensures

pub invariant_of-pass : goal.invariant_of-pass
invariant_of-pass g c = keeps_same g.R.Entry.seat_of known_of c.pass.inside.notes.items c.pass.inside.count c.pass.inside.number c.pass.inside.mine.items c.pass.inside.mine.cap c.get_as.new.note c.pass.invariant

pub invariant_of-pass-then-seat-pass : goal.invariant_of-pass-then-seat-pass
invariant_of-pass-then-seat-pass g c = keeps_same g.R.Entry.seat_of known_of c.pass.inside.notes.items c.pass.inside.count c.pass.inside.number c.pass.inside.mine.items c.pass.inside.mine.cap c.get_as.new.note c.pass.invariant

pub invariant_of-pass-else-seat-pass : goal.invariant_of-pass-else-seat-pass
invariant_of-pass-else-seat-pass g c =
    let row = ap (λ k. k.cells) c.pass.view_is ∙ c.requires ∙ sym c.self.view_is in
    let same = maps_length cell_of cell_name c.pass.inside.notes.items c.self.inside.cells.items row in
    keeps_other g.R.Entry.seat_of known_of c.pass.inside.notes.items c.pass.inside.count c.pass.inside.number c.pass.inside.mine.items c.pass.inside.mine.cap c.get_as.new.note c.in-Some.found.now (omega arith) c.in-Some.ensures.value.0 (λ e. c.if-seat-pass.false (c.seat.ensures ∙ e)) c.pass.invariant

pub returns-in-None-clause-cells : goal.returns-in-None-clause-cells
returns-in-None-clause-cells g c = map_same cell_of _ _ _ _ c.index_mut.ensures.value c.get_as.ensures.cell ∙ ap (λ k. k.cells) c.pass.view_is

pub returns-in-None-clause-pass : goal.returns-in-None-clause-pass
returns-in-None-clause-pass g c = is_pass g.R.Entry.seat_of known_of cell_of _ _ _ _ c.pass.inside.mine.cap (keeps_same g.R.Entry.seat_of known_of c.pass.inside.notes.items c.pass.inside.count c.pass.inside.number c.pass.inside.mine.items c.pass.inside.mine.cap c.get_as.new.note c.pass.invariant)

pub returns-in-None-clause-seen : goal.returns-in-None-clause-seen
returns-in-None-clause-seen g c =
    let row = ap (λ k. k.cells) c.pass.view_is ∙ c.requires ∙ sym c.self.view_is in
    let size = maps_length cell_of cell_name c.pass.inside.notes.items c.self.inside.cells.items row in
    let at : c.pass.inside.count ≡ length c.args.pass.now.seen = sym (count_is known_of _ _ c.pass.invariant.0.0 c.pass.invariant.0.1) ∙ ap (λ k. length k.seen) c.pass.view_is in
    let same = view_same known_of cell_of c.pass.inside.number c.pass.inside.count c.pass.inside.count c.pass.inside.notes.items c.index_mut.result.now c.get_as.new.note c.index_mut.ensures.value c.get_as.ensures.cell (c.in-None.ensures.value.1 ∙ sym c.in-None.ensures.value.0) c.pass.inside.mine.items in
    (same ∙ c.pass.view_is, λ r k. knows_none known_of c.pass.inside.notes.items c.pass.inside.count c.index_mut.result.now r c.index_mut.ensures.value (omega arith) c.in-None.ensures.value.0 (ap (λ p. slice_get p.known c.pass.inside.count) c.pass.view_is ∙ ap (slice_get c.args.pass.now.known) at ∙ k))

pub returns-then-place-len-clause-seen : goal.returns-then-place-len-clause-seen
returns-then-place-len-clause-seen g c =
    let row = ap (λ k. k.cells) c.pass.view_is ∙ c.requires ∙ sym c.self.view_is in
    let size = maps_length cell_of cell_name c.pass.inside.notes.items c.self.inside.cells.items row in
    let at : c.pass.inside.count ≡ length c.args.pass.now.seen = sym (count_is known_of _ _ c.pass.invariant.0.0 c.pass.invariant.0.1) ∙ ap (λ k. length k.seen) c.pass.view_is in
    let known = ap (λ k. length k.known) c.pass.view_is in
    (refl, λ r k. absurd (omega (arith, known, length-map c.pass.inside.notes.items known_of, slice_get_within c.args.pass.now.known _ (Some r) k)))

pub returns-then-seat-pass-clause-cells : goal.returns-then-seat-pass-clause-cells
returns-then-seat-pass-clause-cells g c = map_same cell_of _ _ _ _ c.index_mut.ensures.value c.get_as.ensures.cell ∙ ap (λ k. k.cells) c.pass.view_is

pub returns-then-seat-pass-clause-pass : goal.returns-then-seat-pass-clause-pass
returns-then-seat-pass-clause-pass g c = is_pass g.R.Entry.seat_of known_of cell_of _ _ _ _ c.pass.inside.mine.cap (keeps_same g.R.Entry.seat_of known_of c.pass.inside.notes.items c.pass.inside.count c.pass.inside.number c.pass.inside.mine.items c.pass.inside.mine.cap c.get_as.new.note c.pass.invariant)

pub returns-then-seat-pass-clause-seen : goal.returns-then-seat-pass-clause-seen
returns-then-seat-pass-clause-seen g c =
    let row = ap (λ k. k.cells) c.pass.view_is ∙ c.requires ∙ sym c.self.view_is in
    let size = maps_length cell_of cell_name c.pass.inside.notes.items c.self.inside.cells.items row in
    let same = first_same known_of c.pass.inside.notes.items c.pass.inside.count c.get_as.new.note in
    (ap values same ∙ ap (λ k. k.seen) c.pass.view_is, (sym (ap (λ ks. length (values ks)) same ∙ count_is known_of _ _ c.pass.invariant.0.0 c.pass.invariant.0.1), (c.in-Some.found.now, known_there known_of c.pass.inside.notes.items c.pass.inside.count c.get_as.new.note c.in-Some.found.now (omega arith) c.in-Some.ensures.value.0, sym c.seat.ensures ∙ c.if-seat-pass.true)))

pub returns-else-seat-pass-clause-cells : goal.returns-else-seat-pass-clause-cells
returns-else-seat-pass-clause-cells g c = map_same cell_of _ _ _ _ c.index_mut.ensures.value c.get_as.ensures.cell ∙ ap (λ k. k.cells) c.pass.view_is

pub returns-else-seat-pass-clause-pass : goal.returns-else-seat-pass-clause-pass
returns-else-seat-pass-clause-pass g c =
    let row = ap (λ k. k.cells) c.pass.view_is ∙ c.requires ∙ sym c.self.view_is in
    let same = maps_length cell_of cell_name c.pass.inside.notes.items c.self.inside.cells.items row in
    is_pass g.R.Entry.seat_of known_of cell_of _ _ _ _ c.pass.inside.mine.cap (keeps_other g.R.Entry.seat_of known_of c.pass.inside.notes.items c.pass.inside.count c.pass.inside.number c.pass.inside.mine.items c.pass.inside.mine.cap c.get_as.new.note c.in-Some.found.now (omega arith) c.in-Some.ensures.value.0 (λ e. c.if-seat-pass.false (c.seat.ensures ∙ e)) c.pass.invariant)

pub returns-else-seat-pass-clause-seen : goal.returns-else-seat-pass-clause-seen
returns-else-seat-pass-clause-seen g c =
    let row = ap (λ k. k.cells) c.pass.view_is ∙ c.requires ∙ sym c.self.view_is in
    let size = maps_length cell_of cell_name c.pass.inside.notes.items c.self.inside.cells.items row in
    (seen_more known_of c.pass.inside.notes.items c.pass.inside.count c.get_as.new.note c.in-Some.found.now (omega arith) c.in-Some.ensures.value.0 ∙ ap (λ s. s ++ c.in-Some.found.now ∷ []) (ap (λ k. k.seen) c.pass.view_is), λ e. c.if-seat-pass.false (c.seat.ensures ∙ e ∙ sym (ap (λ k. k.number) c.pass.view_is)))

pub returns-in-None-clause-known : goal.returns-in-None-clause-known
returns-in-None-clause-known g c =
    λ place r k. remembers known_of c.pass.inside.notes.items c.pass.inside.count c.index_mut.result.now c.get_as.new.note c.index_mut.ensures.value (λ v j. c.in-None.ensures.value.1 ∙ sym c.in-None.ensures.value.0 ∙ j) place r (ap (λ p. slice_get p.known place) c.pass.view_is ∙ k)

pub returns-then-seat-pass-clause-known : goal.returns-then-seat-pass-clause-known
returns-then-seat-pass-clause-known g c =
    λ place r k. remembers known_of c.pass.inside.notes.items c.pass.inside.count c.index_mut.result.now c.get_as.new.note c.index_mut.ensures.value (agreed known_of c.index_mut.result.now.known c.get_as.new.note.known c.in-Some.found.now c.in-Some.ensures.value.0 c.in-Some.ensures.value.1) place r (ap (λ p. slice_get p.known place) c.pass.view_is ∙ k)

pub returns-else-seat-pass-clause-known : goal.returns-else-seat-pass-clause-known
returns-else-seat-pass-clause-known g c =
    λ place r k. remembers known_of c.pass.inside.notes.items c.pass.inside.count c.index_mut.result.now c.get_as.new.note c.index_mut.ensures.value (agreed known_of c.index_mut.result.now.known c.get_as.new.note.known c.in-Some.found.now c.in-Some.ensures.value.0 c.in-Some.ensures.value.1) place r (ap (λ p. slice_get p.known place) c.pass.view_is ∙ k)

pub returns-then-place-len-clause-pass : goal.returns-then-place-len-clause-pass
returns-then-place-len-clause-pass g c =
    subst (IsPass g.R.Entry.seat_of) c.pass.view_is (is_pass g.R.Entry.seat_of known_of cell_of _ _ _ _ c.pass.inside.mine.cap c.pass.invariant)

pub returns-in-None-clause-others : goal.returns-in-None-clause-others
returns-in-None-clause-others g c = λ place n.
    let at : c.pass.inside.count ≡ length c.args.pass.now.seen = sym (count_is known_of _ _ c.pass.invariant.0.0 c.pass.invariant.0.1) ∙ ap (λ k. length k.seen) c.pass.view_is in
    others_stay known_of c.pass.inside.notes.items c.pass.inside.count c.get_as.new.note place (λ e. n (e ∙ at)) ∙ ap (λ p. slice_get p.known place) c.pass.view_is

pub returns-then-seat-pass-clause-others : goal.returns-then-seat-pass-clause-others
returns-then-seat-pass-clause-others g c = λ place n.
    let at : c.pass.inside.count ≡ length c.args.pass.now.seen = sym (count_is known_of _ _ c.pass.invariant.0.0 c.pass.invariant.0.1) ∙ ap (λ k. length k.seen) c.pass.view_is in
    others_stay known_of c.pass.inside.notes.items c.pass.inside.count c.get_as.new.note place (λ e. n (e ∙ at)) ∙ ap (λ p. slice_get p.known place) c.pass.view_is

pub returns-else-seat-pass-clause-others : goal.returns-else-seat-pass-clause-others
returns-else-seat-pass-clause-others g c = λ place n.
    let at : c.pass.inside.count ≡ length c.args.pass.now.seen = sym (count_is known_of _ _ c.pass.invariant.0.0 c.pass.invariant.0.1) ∙ ap (λ k. length k.seen) c.pass.view_is in
    others_stay known_of c.pass.inside.notes.items c.pass.inside.count c.get_as.new.note place (λ e. n (e ∙ at)) ∙ ap (λ p. slice_get p.known place) c.pass.view_is
