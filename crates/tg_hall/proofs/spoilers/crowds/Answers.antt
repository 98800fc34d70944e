use Rattle.std.proofs.Common.{◌≡◌, ℕ, ◌+◌, ◌<◌, length, sym, ◌∙◌, arith}
use Rattle.std.specs.Prelude.{min}
use Rattle.std.proofs.lemmas.Bool.Decides.{nat_tests}
use Rattle.std.proofs.lemmas.List.{length-map}
use Rattle.tg_graph.specs.GraphOf.{graph_of}
use Rattle.tg_hall.proofs.Told.{creates-told}
use Rattle.tg_graph.specs.Limits.{most_vertices}
use Rattle.tg_hall.proofs.Crowds.{name_count-apart}
use Rattle.tg_hall.proofs.spoilers.crowds.Goals as goal

-- sums that stop at the largest number compare with a small one as the true sums do
stopped : (v a b created total count : ℕ) → created ≡ min (a + b) 18446744073709551615 → total ≡ min (v + created) 18446744073709551615 → count ≡ v + a + b → (most_vertices < total → most_vertices < count) × (most_vertices < count → most_vertices < total)
stopped v a b created total count e f n = (λ h. omega arith, λ h. omega arith)

pub returns : goal.returns
returns c =
    let g = graph_of c.args.graph.now in
    let theirs = c.args.committed.now in
    let ours = c.args.session.now in
    let n = name_count-apart g theirs ours c.len.ensures.graph.apart c.requires.apart in
    let a = creates-told g theirs c.requires.committed in
    let b = creates-told g ours c.requires.session in
    let v : length g.vertices ≡ c.len.result = length-map c.args.graph.now (λ e. e.0) ∙ sym c.len.ensures.value in
    let both = stopped c.len.result c.creation_count.result c.creation_count-2.result _ _ _ c.saturating_add-created.ensures c.saturating_add.ensures
    (n ∙ omega (arith, a, b, v)) in
    (λ h. both.0 (grind (arith, nat_tests)), λ h. let k = both.1 h in grind (arith, nat_tests, k))
