use Rattle.std.proofs.Common.{◌≡◌, sym, ap, subst, ◌∙◌, length, map, arith, bytes_eq}
use Rattle.std.specs.Map.{keys_of}
use Rattle.indexmap.specs.IndexMap.{insert_all}
use Rattle.tg_rows.specs.Rows.{IsGraph}
use Rattle.tg_graph.specs.Drafts.{taken_over}
use Rattle.tg_graph.specs.TakenRows.{entry_of}
use Rattle.tg_graph.proofs.TakenOver.{graph-taken, length-taken}
use Rattle.tg_graph.proofs.protection.Graph.take_over.Goals as goal

pub put_all_taken-requires : goal.put_all_taken-requires
put_all_taken-requires c =
    let base = c.self.inside.rows.entries in
    let other = c.other.inside.rows.entries in
    let places = c.args.positions.now in
    let same : keys_of (taken_over base other places) ≡ keys_of other =
    (λ i. keys_of (taken_over (c.self.view_is i) (c.other.view_is i) places)) ∙ c.requires ∙ ap keys_of (sym c.other.view_is) in
    let end : length (insert_all bytes_eq c.reserve.new.self.entries (map entry_of c.in_ok-taken.taken.items)) ≡ length other =
    (λ i. length (insert_all bytes_eq (c.in_ok-reserve.ensures.entries i) (c.in_ok-taken.ensures i))) ∙ length-taken base other places c.self.invariant c.other.invariant same in
    record { room = omega (arith, end, ap length c.in_ok-reserve.ensures.entries, ap length c.self.view_is, ap length c.other.view_is, c.in_ok-reserve.ensures.ok) }

pub invariant_of-self-2 : goal.invariant_of-self-2
invariant_of-self-2 c =
    let base = c.self.inside.rows.entries in
    let other = c.other.inside.rows.entries in
    let places = c.args.positions.now in
    let same : keys_of (taken_over base other places) ≡ keys_of other =
    (λ i. keys_of (taken_over (c.self.view_is i) (c.other.view_is i) places)) ∙ c.requires ∙ ap keys_of (sym c.other.view_is) in
    let made : c.put_all_taken.new.rows.entries ≡ taken_over base other places =
    c.put_all_taken.ensures ∙ (λ i. insert_all bytes_eq (c.in_ok-reserve.ensures.entries i) (c.in_ok-taken.ensures i)) in
    subst IsGraph (sym made) (graph-taken base other places c.self.invariant c.other.invariant same)
