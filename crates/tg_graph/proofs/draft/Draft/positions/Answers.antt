use Rattle.std.proofs.Common.{◌≡◌, ◌++◌, ◌∷◌, [], Some, map, length, sym, ap, subst, ◌∙◌, arith, bytes_eq}
use Rattle.std.specs.Prelude.{slice_get}
use Rattle.std.specs.List.{IsDistinct}
use Rattle.std.specs.Map.{keys_of}
use Rattle.std.proofs.lemmas.List.{length-map, length-append, append_assoc, append-nil}
use Rattle.indexmap.specs.IndexSet.{insert_all as set_all}
use Rattle.indexmap.proofs.SetLemmas.{keys_insert_all}
use Rattle.tg_graph.specs.Drafts.{Changes}
use Rattle.tg_graph.proofs.Positions.{not_before, noted-more, length-keys_set}
use Rattle.tg_graph.proofs.draft.Draft.positions.Goals as goal

pub note_position-requires : goal.note_position-requires
note_position-requires c =
    let inv = c.loop-name.invariant in
    let base = c.args.base.now in
    let rows = c.args.self.now.0 in
    let few = length-keys_set (keys_of base) inv.0 in
    let split = ap length inv.1 ∙ ap (λ es. length (inv.0 ++ keys_of es)) c.in-Some.ensures.steps ∙ length-append inv.0 _ in
    omega (arith, few, split, inv.3, length-map base (λ e. e.0), length-map rows (λ e. e.0), c.len.ensures.small, c.len.ensures.len, c.len-next.ensures.small, c.len-next.ensures.len, ap length c.base.view_is, ap (λ (d : Changes). length d.0) c.self.view_is)

pub loop-name-preserved : goal.loop-name-preserved
loop-name-preserved c =
    let inv = c.loop-name.invariant in
    let base = c.args.base.now in
    let name = c.in-Some.name.now in
    let split = inv.1 ∙ ap (λ es. inv.0 ++ keys_of es) c.in-Some.ensures.steps in
    let fresh = not_before inv.0 name (keys_of c.next.new.self) (subst (IsDistinct bytes_eq) (ap (λ (d : Changes). keys_of d.0) c.self.view_is ∙ split) c.self.invariant.rows.apart) in
    let noted = noted-more base inv.0 name c.loop-name.next c.in_ok-next.next c.loop-name.positions.items c.note_position.new.positions.items fresh inv.2 inv.3
    c.in_ok-next.ensures in
    (inv.0 ++ name ∷ [], split ∙ sym (append_assoc inv.0 (name ∷ []) (keys_of c.next.new.self)), noted.stand, noted.next_is)

pub returns : goal.returns
returns c =
    let inv = c.loop-name.invariant in
    let base = c.args.base.now in
    let rows = c.args.self.now.0 in
    let all : keys_of rows ≡ inv.0 = inv.1 ∙ ap (λ es. inv.0 ++ keys_of es) c.in-None.ensures.steps.0 ∙ append-nil inv.0 in
    ap (λ ks. map (slice_get ks) c.loop-name.positions.items) (keys_insert_all bytes_eq base rows ∙ ap (set_all bytes_eq (keys_of base)) all)
    ∙ inv.2 ∙ ap (map Some) (sym all)
