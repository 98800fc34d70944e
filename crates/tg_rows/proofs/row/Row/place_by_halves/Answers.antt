use Rattle.std.proofs.Common.{◌-◌, ◌≤◌, [], ℕ, List, length, get_or, true≢false, arith, sym, ap, subst, ◌∙◌}
use Rattle.std.specs.Ordering.{nat_cmp, is_lt, is_gt}
use Rattle.std.specs.Cmp.Lexicographic.{slice_cmp}
use Rattle.tg_names.specs.Sets.{nothing}
use Rattle.tg_rows.specs.Rows.{Edges, IsPlaceOf, AreBelow}
use Rattle.tg_rows.proofs.Places.{below_from_last, place_from_equal}
use Rattle.tg_rows.proofs.row.Row.place_by_halves.Goals as goal

pub unreachable-requires : goal.unreachable-requires
unreachable-requires c = true≢false (
    ap is_gt c.in-Greater.ensures
    ∙ ap (λ (n : List ℕ). is_gt (slice_cmp nat_cmp n c.args.y)) (c.target.ensures ([], nothing) ∙ ap (λ (r : Edges). (get_or r (c.count_up_to-count.result - 1) ([], nothing)).0) c.self.view_is)
    ∙ c.count_up_to-count.ensures.last ([], nothing) (omega arith))

pub returns-in-Less-clause-absent : goal.returns-in-Less-clause-absent
returns-in-Less-clause-absent c =
    let row = c.self.inside.edges in
    let count = c.count_up_to-count.result in
    let within : count ≤ length row = omega (arith, c.count_up_to-count.ensures.within, ap length c.self.view_is) in
    record {
      in_range = c.count_up_to-count.ensures.within;
      lesser = subst (λ (r : Edges). AreBelow r c.args.y count) c.self.view_is (below_from_last row c.args.y (count - 1) c.target.result c.self.invariant.sorted (omega arith) c.target.ensures count (omega arith) (ap is_lt (sym c.in-Less.ensures)));
      greater = c.count_up_to-count.ensures.above;
    }

pub returns-in-Equal-clause-found : goal.returns-in-Equal-clause-found
returns-in-Equal-clause-found c =
    let row = c.self.inside.edges in
    let count = c.count_up_to-count.result in
    let within : count ≤ length row = omega (arith, c.count_up_to-count.ensures.within, ap length c.self.view_is) in
    subst (λ r. IsPlaceOf r c.args.y (count - 1)) c.self.view_is
    (place_from_equal row c.args.y (count - 1) c.target.result c.self.invariant.sorted (omega arith) c.target.ensures (sym c.in-Equal.ensures))
