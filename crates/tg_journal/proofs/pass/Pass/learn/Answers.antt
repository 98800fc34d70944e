use Rattle.std.proofs.Common.{◌≡◌, length, ℕ, sym, ◌∙◌, ap, arith}
use Rattle.tg_journal.proofs.Rows.{maps_length, map_same, first_same, count_is, name_there, keeps_same, remembers, agreed_some, others_stay, known_now}
use Rattle.std.proofs.lemmas.Option.{slice_get_within}
use Rattle.tg_journal.specs.Known.{values}
use Rattle.tg_journal.proofs.NoteFields.{cell_of, known_of}
use Rattle.std.proofs.lemmas.List.{map-id}
use Rattle.std.specs.List.{slice_get}
use Rattle.tg_journal.proofs.pass.Pass.learn.Goals as goal

pub invariant_of-self : goal.invariant_of-self
invariant_of-self g c =
    keeps_same g.R.Entry.seat_of known_of c.self.inside.notes.items c.self.inside.count c.self.inside.number c.self.inside.mine.items c.self.inside.mine.cap c.replace.new.to c.self.invariant

pub returns-clause-cells : goal.returns-clause-cells
returns-clause-cells g c =
    let cells = ap (λ k. k.cells) c.self.view_is in
    let count = sym (count_is known_of c.self.inside.notes.items c.self.inside.count c.self.invariant.0.0 c.self.invariant.0.1) ∙ ap (λ k. length k.seen) c.self.view_is in
    let name = name_there cell_of c.self.inside.notes.items c.args.self.now.cells c.self.inside.count _ c.args.note.now.cell c.index_mut.result.now cells count c.requires.cell c.index_mut.ensures.value in
    map_same cell_of c.self.inside.notes.items c.self.inside.count c.index_mut.result.now c.replace.new.to c.index_mut.ensures.value (ap cell_of c.replace.ensures.note ∙ name) ∙ cells

pub returns-clause-seen : goal.returns-clause-seen
returns-clause-seen g c =
    ap values (first_same known_of c.self.inside.notes.items c.self.inside.count c.replace.new.to) ∙ ap (λ k. k.seen) c.self.view_is

pub returns-clause-there : goal.returns-clause-there
returns-clause-there g c =
    let cells = ap (λ k. k.cells) c.self.view_is in
    let count = count_is known_of c.self.inside.notes.items c.self.inside.count c.self.invariant.0.0 c.self.invariant.0.1 in
    let seen = ap (λ k. length k.seen) c.self.view_is in
    let there = slice_get_within c.args.self.now.cells _ _ c.requires.cell in
    let size = maps_length cell_of (λ (x : ℕ). x) c.self.inside.notes.items c.args.self.now.cells (cells ∙ sym (map-id c.args.self.now.cells)) in
    known_now known_of c.self.inside.notes.items c.self.inside.count (length c.args.self.now.seen) c.replace.new.to c.args.note.now.known (omega arith) (sym count ∙ seen) (ap known_of c.replace.ensures.note)

pub returns-clause-known : goal.returns-clause-known
returns-clause-known g c =
    λ place r k. remembers known_of c.self.inside.notes.items c.self.inside.count c.index_mut.result.now c.replace.new.to c.index_mut.ensures.value (λ v j. ap known_of c.replace.ensures.note ∙ agreed_some c.index_mut.result.now.known c.args.note.now.known c.requires.known c.replace.ensures.agrees v j) place r (ap (λ p. slice_get p.known place) c.self.view_is ∙ k)

pub returns-clause-others : goal.returns-clause-others
returns-clause-others g c = λ place n.
    let at : c.self.inside.count ≡ length c.args.self.now.seen = sym (count_is known_of _ _ c.self.invariant.0.0 c.self.invariant.0.1) ∙ ap (λ k. length k.seen) c.self.view_is in
    others_stay known_of c.self.inside.notes.items c.self.inside.count c.replace.new.to place (λ e. n (e ∙ at)) ∙ ap (λ p. slice_get p.known place) c.self.view_is
