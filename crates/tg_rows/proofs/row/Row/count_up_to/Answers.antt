use Rattle.std.proofs.Common.{◌≡◌, ◌<◌, ◌≤◌, ◌+◌, ◌-◌, [], ℕ, Bool, List, length, get_or, true, false, not, true≢false, ⊎_elim, arith, sym, ap, subst, ◌∙◌}
use Rattle.std.specs.Int.{from_bool}
use Rattle.std.specs.Ordering.{is_gt}
use Rattle.std.proofs.lemmas.Bool.{cases_lt}
use Rattle.tg_names.specs.declared.right_sets.Rights.{Rights}
use Rattle.tg_names.specs.Sets.{nothing}
use Rattle.tg_rows.specs.Rows.{Edges, AreAbove}
use Rattle.tg_rows.specs.Halves.{LastIsNotAbove}
use Rattle.tg_rows.proofs.Places.{IsUp, name_cmp, above_from_first}
use Rattle.tg_rows.proofs.row.Row.count_up_to.Goals as goal

-- what the loop keeps, of so many edges counted up to a place
record IsCounted (row : Edges) (v : List ℕ) (count place : ℕ) : Type 0 where
  order : count ≤ place
  last : LastIsNotAbove row v count
  above : count < place → AreAbove row v count

-- an edge to n stands at the place
module _ (row : Edges) (v : List ℕ) (count place : ℕ) (n : List ℕ) (up : IsUp row) (within : place < length row) (is : (d : List ℕ × Rights) → n ≡ (get_or row place d).0) (held : IsCounted row v count place) where
  above_from_count : is_gt (name_cmp n v) ≡ true → AreAbove row v count
  above_from_count t = ⊎_elim held.above
      (λ l. let here : place ≡ count = omega (arith, held.order) in subst (AreAbove row v) here (above_from_first row v place n up within is t))
      (cases_lt count place)

  all_counted : is_gt (name_cmp n v) ≡ false → count ≡ place
  all_counted f = ⊎_elim
      (λ l. absurd (true≢false (sym (ap is_gt (held.above l place ([], nothing) held.order within)) ∙ sym (ap (λ (x : List ℕ). is_gt (name_cmp x v)) (is ([], nothing))) ∙ f)))
      (λ l. let here : count ≡ place = omega (arith, held.order) in here)
      (cases_lt count place)

  one_more : (b : Bool) (added : ℕ) → b ≡ is_gt (name_cmp n v) → added ≡ from_bool (not b) → IsCounted row v (count + added) (place + 1)
  one_more true added t a =
      let same : count ≡ count + added = omega arith in
      record {
        order = omega (arith, held.order);
        last = subst (LastIsNotAbove row v) same held.last;
        above = λ l. subst (AreAbove row v) same (above_from_count (sym t));
      }
  one_more false added f a =
      let all = all_counted (sym f) in
      let here : place ≡ count + added - 1 = omega arith in
      record {
        order = omega (arith, held.order);
        last = λ d some. subst (λ k. is_gt (name_cmp (get_or row k d).0 v) ≡ false) here (sym (ap (λ (x : List ℕ). is_gt (name_cmp x v)) (is d)) ∙ sym f);
        above = λ l. absurd (omega arith);
      }

pub loop-place-preserved : goal.loop-place-preserved
loop-place-preserved c =
    let held = c.loop-place.invariant in
    let more = one_more c.self.inside.edges c.args.y c.loop-place.count c.loop-place.place c.target.result c.self.invariant.sorted (omega (arith, c.halve_up_to-low.ensures.within, ap length c.self.view_is)) c.target.ensures (record { order = held.order; last = held.last; above = held.above }) c.is_gt.result c.from-count.result (c.is_gt.ensures ∙ ap is_gt c.cmp.ensures) c.from-count.ensures in
    record { order = more.order; last = more.last; above = more.above }
