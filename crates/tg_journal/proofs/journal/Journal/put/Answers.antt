use Rattle.std.proofs.Common.{subst, ◌≡◌, length, [], ◌∷◌, ◌++◌, sym, ◌∙◌, ap, arith}
use Rattle.tg_journal.proofs.Rows.{maps_read, maps_length, map_same, seen_more, first_same, known_there, count_is, keeps_same, keeps_other, keeps_mine, is_pass, has_room}
use Rattle.once_cell.specs.Once.{cell_name}
use Rattle.tg_journal.specs.Pass.{IsPass}
use Rattle.std.specs.declared.option.Option.TheVariants.{Some}
use Rattle.tg_journal.specs.Known.{values}
use Rattle.tg_journal.proofs.NoteFields.{cell_of, known_of}
use Rattle.tg_journal.proofs.Rows.{remembers, agreed, others_stay}
use Rattle.std.specs.List.{slice_get}
use Rattle.tg_journal.proofs.journal.Journal.put.Goals as goal

pub get_or_init_as-found-requires-clause-cell : goal.get_or_init_as-found-requires-clause-cell
get_or_init_as-found-requires-clause-cell g c = maps_read cell_of cell_name _ _ c.pass.inside.count _ _ (ap (λ k. k.cells) c.pass.view_is ∙ c.requires.cells ∙ sym c.self.view_is) (omega arith) c.index_mut.ensures.value c.index.ensures

pub invariant_of-pass : goal.invariant_of-pass
invariant_of-pass g c =
    let row = ap (λ k. k.cells) c.pass.view_is ∙ c.requires.cells ∙ sym c.self.view_is in
    let size = maps_length cell_of cell_name c.pass.inside.notes.items c.self.inside.cells.items row in
    let laws = g.met.R.Entry g.world.𝓛 g.world.𝓜 g.world.𝓡 ((λ s x. x), (λ x. x), (λ x. x), λ x. x) in
    let equal : c.get_or_init_as-found.result.now ≡ c.args.entry.now = (laws.same _ _).0 (sym c.eq.ensures ∙ c.if-eq.true) in
    let own : g.R.Entry.seat_of c.get_or_init_as-found.result.now ≡ c.pass.inside.number = ap g.R.Entry.seat_of equal ∙ c.requires.seat ∙ sym (ap (λ k. k.number) c.pass.view_is) in
    keeps_mine g.R.Entry.seat_of known_of c.pass.inside.notes.items c.pass.inside.count c.pass.inside.number c.pass.inside.mine.items c.push_reserved.new.self.items c.pass.inside.mine.cap c.push_reserved.new.self.cap c.get_or_init_as-found.new.note c.get_or_init_as-found.result.now (omega arith) c.get_or_init_as-found.ensures.value.0 own c.push_reserved.ensures.items c.push_reserved.ensures.capacity c.pass.invariant

pub invariant_of-pass-then-seat-pass : goal.invariant_of-pass-then-seat-pass
invariant_of-pass-then-seat-pass g c =
    keeps_same g.R.Entry.seat_of known_of c.pass.inside.notes.items c.pass.inside.count c.pass.inside.number c.pass.inside.mine.items c.pass.inside.mine.cap c.get_or_init_as-found.new.note c.pass.invariant

pub invariant_of-pass-else-seat-pass : goal.invariant_of-pass-else-seat-pass
invariant_of-pass-else-seat-pass g c =
    let row = ap (λ k. k.cells) c.pass.view_is ∙ c.requires.cells ∙ sym c.self.view_is in
    let size = maps_length cell_of cell_name c.pass.inside.notes.items c.self.inside.cells.items row in
    keeps_other g.R.Entry.seat_of known_of c.pass.inside.notes.items c.pass.inside.count c.pass.inside.number c.pass.inside.mine.items c.pass.inside.mine.cap c.get_or_init_as-found.new.note c.get_or_init_as-found.result.now (omega arith) c.get_or_init_as-found.ensures.value.0 (λ e. c.if-seat-pass.false (c.seat.ensures ∙ e)) c.pass.invariant

pub returns-then-eq-clause-cells : goal.returns-then-eq-clause-cells
returns-then-eq-clause-cells g c = map_same cell_of _ _ _ _ c.index_mut.ensures.value c.get_or_init_as-found.ensures.cell ∙ ap (λ k. k.cells) c.pass.view_is

pub returns-then-eq-clause-seen : goal.returns-then-eq-clause-seen
returns-then-eq-clause-seen g c =
    let row = ap (λ k. k.cells) c.pass.view_is ∙ c.requires.cells ∙ sym c.self.view_is in
    let size = maps_length cell_of cell_name c.pass.inside.notes.items c.self.inside.cells.items row in
    let laws = g.met.R.Entry g.world.𝓛 g.world.𝓜 g.world.𝓡 ((λ s x. x), (λ x. x), (λ x. x), λ x. x) in
    let equal : c.get_or_init_as-found.result.now ≡ c.args.entry.now = (laws.same _ _).0 (sym c.eq.ensures ∙ c.if-eq.true) in
    let own : g.R.Entry.seat_of c.get_or_init_as-found.result.now ≡ c.pass.inside.number = ap g.R.Entry.seat_of equal ∙ c.requires.seat ∙ sym (ap (λ k. k.number) c.pass.view_is) in
    (sym (count_is known_of _ _ c.pass.invariant.0.0 c.pass.invariant.0.1) ∙ ap (λ k. length k.seen) c.pass.view_is, seen_more known_of c.pass.inside.notes.items c.pass.inside.count c.get_or_init_as-found.new.note c.args.entry.now (omega arith) (c.get_or_init_as-found.ensures.value.0 ∙ ap Some equal) ∙ ap (λ s. s ++ c.args.entry.now ∷ []) (ap (λ k. k.seen) c.pass.view_is), c.push_reserved.ensures.items ∙ ap (λ l. l ++ c.pass.inside.count ∷ []) (ap (λ k. k.mine) c.pass.view_is))

pub returns-then-seat-pass-clause-cells : goal.returns-then-seat-pass-clause-cells
returns-then-seat-pass-clause-cells g c = map_same cell_of _ _ _ _ c.index_mut.ensures.value c.get_or_init_as-found.ensures.cell ∙ ap (λ k. k.cells) c.pass.view_is

pub returns-then-seat-pass-clause-seen : goal.returns-then-seat-pass-clause-seen
returns-then-seat-pass-clause-seen g c =
    let row = ap (λ k. k.cells) c.pass.view_is ∙ c.requires.cells ∙ sym c.self.view_is in
    let size = maps_length cell_of cell_name c.pass.inside.notes.items c.self.inside.cells.items row in
    let same = first_same known_of c.pass.inside.notes.items c.pass.inside.count c.get_or_init_as-found.new.note in
    (ap values same ∙ ap (λ k. k.seen) c.pass.view_is, ap (λ k. k.mine) c.pass.view_is, (sym (ap (λ ks. length (values ks)) same ∙ count_is known_of _ _ c.pass.invariant.0.0 c.pass.invariant.0.1), (c.get_or_init_as-found.result.now, known_there known_of c.pass.inside.notes.items c.pass.inside.count c.get_or_init_as-found.new.note c.get_or_init_as-found.result.now (omega arith) c.get_or_init_as-found.ensures.value.0, sym c.seat.ensures ∙ c.if-seat-pass.true)))

pub returns-else-seat-pass-clause-cells : goal.returns-else-seat-pass-clause-cells
returns-else-seat-pass-clause-cells g c = map_same cell_of _ _ _ _ c.index_mut.ensures.value c.get_or_init_as-found.ensures.cell ∙ ap (λ k. k.cells) c.pass.view_is

pub returns-else-seat-pass-clause-seen : goal.returns-else-seat-pass-clause-seen
returns-else-seat-pass-clause-seen g c =
    let row = ap (λ k. k.cells) c.pass.view_is ∙ c.requires.cells ∙ sym c.self.view_is in
    let size = maps_length cell_of cell_name c.pass.inside.notes.items c.self.inside.cells.items row in
    (sym (count_is known_of _ _ c.pass.invariant.0.0 c.pass.invariant.0.1) ∙ ap (λ k. length k.seen) c.pass.view_is, ap (λ k. k.mine) c.pass.view_is, (c.get_or_init_as-found.result.now, seen_more known_of c.pass.inside.notes.items c.pass.inside.count c.get_or_init_as-found.new.note c.get_or_init_as-found.result.now (omega arith) c.get_or_init_as-found.ensures.value.0 ∙ ap (λ s. s ++ c.get_or_init_as-found.result.now ∷ []) (ap (λ k. k.seen) c.pass.view_is), λ e. c.if-seat-pass.false (c.seat.ensures ∙ e ∙ sym (ap (λ k. k.number) c.pass.view_is))))

pub returns-then-eq-clause-pass : goal.returns-then-eq-clause-pass
returns-then-eq-clause-pass g c =
    let row = ap (λ k. k.cells) c.pass.view_is ∙ c.requires.cells ∙ sym c.self.view_is in
    let size = maps_length cell_of cell_name c.pass.inside.notes.items c.self.inside.cells.items row in
    let laws = g.met.R.Entry g.world.𝓛 g.world.𝓜 g.world.𝓡 ((λ s x. x), (λ x. x), (λ x. x), λ x. x) in
    let equal : c.get_or_init_as-found.result.now ≡ c.args.entry.now = (laws.same _ _).0 (sym c.eq.ensures ∙ c.if-eq.true) in
    let own : g.R.Entry.seat_of c.get_or_init_as-found.result.now ≡ c.pass.inside.number = ap g.R.Entry.seat_of equal ∙ c.requires.seat ∙ sym (ap (λ k. k.number) c.pass.view_is) in
    is_pass g.R.Entry.seat_of known_of cell_of _ _ _ _ c.push_reserved.new.self.cap (keeps_mine g.R.Entry.seat_of known_of c.pass.inside.notes.items c.pass.inside.count c.pass.inside.number c.pass.inside.mine.items c.push_reserved.new.self.items c.pass.inside.mine.cap c.push_reserved.new.self.cap c.get_or_init_as-found.new.note c.get_or_init_as-found.result.now (omega arith) c.get_or_init_as-found.ensures.value.0 own c.push_reserved.ensures.items c.push_reserved.ensures.capacity c.pass.invariant)

pub returns-then-seat-pass-clause-pass : goal.returns-then-seat-pass-clause-pass
returns-then-seat-pass-clause-pass g c =
    is_pass g.R.Entry.seat_of known_of cell_of _ _ _ _ c.pass.inside.mine.cap (keeps_same g.R.Entry.seat_of known_of c.pass.inside.notes.items c.pass.inside.count c.pass.inside.number c.pass.inside.mine.items c.pass.inside.mine.cap c.get_or_init_as-found.new.note c.pass.invariant)

pub returns-else-seat-pass-clause-pass : goal.returns-else-seat-pass-clause-pass
returns-else-seat-pass-clause-pass g c =
    let row = ap (λ k. k.cells) c.pass.view_is ∙ c.requires.cells ∙ sym c.self.view_is in
    let size = maps_length cell_of cell_name c.pass.inside.notes.items c.self.inside.cells.items row in
    is_pass g.R.Entry.seat_of known_of cell_of _ _ _ _ c.pass.inside.mine.cap (keeps_other g.R.Entry.seat_of known_of c.pass.inside.notes.items c.pass.inside.count c.pass.inside.number c.pass.inside.mine.items c.pass.inside.mine.cap c.get_or_init_as-found.new.note c.get_or_init_as-found.result.now (omega arith) c.get_or_init_as-found.ensures.value.0 (λ e. c.if-seat-pass.false (c.seat.ensures ∙ e)) c.pass.invariant)

pub push_reserved-requires : goal.push_reserved-requires
push_reserved-requires g c =
    let row = ap (λ k. k.cells) c.pass.view_is ∙ c.requires.cells ∙ sym c.self.view_is in
    let size = maps_length cell_of cell_name c.pass.inside.notes.items c.self.inside.cells.items row in
    let room = has_room g.R.Entry.seat_of known_of c.pass.inside.notes.items c.pass.inside.count c.pass.inside.number c.pass.inside.mine.items c.pass.inside.mine.cap (omega arith) c.pass.invariant in
    omega (arith, room, c.pass.inside.mine.ok)

pub returns-then-eq-clause-known : goal.returns-then-eq-clause-known
returns-then-eq-clause-known g c =
    λ place r k. remembers known_of c.pass.inside.notes.items c.pass.inside.count c.index_mut.result.now c.get_or_init_as-found.new.note c.index_mut.ensures.value (agreed known_of c.index_mut.result.now.known c.get_or_init_as-found.new.note.known c.get_or_init_as-found.result.now c.get_or_init_as-found.ensures.value.0 c.get_or_init_as-found.ensures.value.1) place r (ap (λ p. slice_get p.known place) c.pass.view_is ∙ k)

pub returns-then-seat-pass-clause-known : goal.returns-then-seat-pass-clause-known
returns-then-seat-pass-clause-known g c =
    λ place r k. remembers known_of c.pass.inside.notes.items c.pass.inside.count c.index_mut.result.now c.get_or_init_as-found.new.note c.index_mut.ensures.value (agreed known_of c.index_mut.result.now.known c.get_or_init_as-found.new.note.known c.get_or_init_as-found.result.now c.get_or_init_as-found.ensures.value.0 c.get_or_init_as-found.ensures.value.1) place r (ap (λ p. slice_get p.known place) c.pass.view_is ∙ k)

pub returns-else-seat-pass-clause-known : goal.returns-else-seat-pass-clause-known
returns-else-seat-pass-clause-known g c =
    λ place r k. remembers known_of c.pass.inside.notes.items c.pass.inside.count c.index_mut.result.now c.get_or_init_as-found.new.note c.index_mut.ensures.value (agreed known_of c.index_mut.result.now.known c.get_or_init_as-found.new.note.known c.get_or_init_as-found.result.now c.get_or_init_as-found.ensures.value.0 c.get_or_init_as-found.ensures.value.1) place r (ap (λ p. slice_get p.known place) c.pass.view_is ∙ k)

pub returns-then-place-len-clause-pass : goal.returns-then-place-len-clause-pass
returns-then-place-len-clause-pass g c =
    subst (IsPass g.R.Entry.seat_of) c.pass.view_is (is_pass g.R.Entry.seat_of known_of cell_of _ _ _ _ c.pass.inside.mine.cap c.pass.invariant)

pub returns-in_default-clause-pass : goal.returns-in_default-clause-pass
returns-in_default-clause-pass g c =
    subst (IsPass g.R.Entry.seat_of) c.pass.view_is (is_pass g.R.Entry.seat_of known_of cell_of _ _ _ _ c.pass.inside.mine.cap c.pass.invariant)

pub returns-then-eq-clause-others : goal.returns-then-eq-clause-others
returns-then-eq-clause-others g c = λ place n.
    let at : c.pass.inside.count ≡ length c.args.pass.now.seen = sym (count_is known_of _ _ c.pass.invariant.0.0 c.pass.invariant.0.1) ∙ ap (λ k. length k.seen) c.pass.view_is in
    others_stay known_of c.pass.inside.notes.items c.pass.inside.count c.get_or_init_as-found.new.note place (λ e. n (e ∙ at)) ∙ ap (λ p. slice_get p.known place) c.pass.view_is

pub returns-then-seat-pass-clause-others : goal.returns-then-seat-pass-clause-others
returns-then-seat-pass-clause-others g c = λ place n.
    let at : c.pass.inside.count ≡ length c.args.pass.now.seen = sym (count_is known_of _ _ c.pass.invariant.0.0 c.pass.invariant.0.1) ∙ ap (λ k. length k.seen) c.pass.view_is in
    others_stay known_of c.pass.inside.notes.items c.pass.inside.count c.get_or_init_as-found.new.note place (λ e. n (e ∙ at)) ∙ ap (λ p. slice_get p.known place) c.pass.view_is

pub returns-else-seat-pass-clause-others : goal.returns-else-seat-pass-clause-others
returns-else-seat-pass-clause-others g c = λ place n.
    let at : c.pass.inside.count ≡ length c.args.pass.now.seen = sym (count_is known_of _ _ c.pass.invariant.0.0 c.pass.invariant.0.1) ∙ ap (λ k. length k.seen) c.pass.view_is in
    others_stay known_of c.pass.inside.notes.items c.pass.inside.count c.get_or_init_as-found.new.note place (λ e. n (e ∙ at)) ∙ ap (λ p. slice_get p.known place) c.pass.view_is
