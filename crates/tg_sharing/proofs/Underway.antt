-- A right on its way from a holder, one link after another.
use Rattle.std.proofs.Common.{◌≡◌, ℕ, ◌+◌, ◌^◌, ◌<◌, ◌≤◌, Bool, true, false, ◌⊎◌, inl, inr, List, [], ◌∷◌, ◌++◌, length, Some, None, if◌then◌else◌, refl, sym, ap, ◌∙◌, subst, IsTrue, arith, length-append}
use Rattle.std.proofs.lemmas.Bool.{true≢false, both_ways, cases_lt, or_cases, or_left, or_right, false_from_ne_true}
use Rattle.std.proofs.lemmas.List.Folds.{list_any-append}
use Rattle.std.specs.List.{list_any}
use Rattle.tg_names.specs.declared.right_sets.Right.{Right}
use Rattle.tg_names.specs.declared.right_sets.Right.TheVariants.{T, G}
use Rattle.tg_graph.specs.declared.rules.Rule.{Rule}
use Rattle.tg_graph.specs.declared.rules.Rule.TheVariants.{Take, Grant}
use Rattle.tg_names.specs.Names.{helper_name, Name, same_name}
use Rattle.tg_graph.specs.Limits.{most_vertices}
use Rattle.tg_graph.specs.Graphs.{ProtectionGraph, has_vertex, WellFormed}
use Rattle.tg_graph.specs.RuleLists.{after_all}
use Rattle.tg_names.proofs.Digits.{name-decimal}
use Rattle.tg_rows.proofs.Rows.{same_bytes}
use Rattle.tg_islands.specs.Sharing.{linked}
use Rattle.tg_islands.specs.Moves.{only, IsLeastHelper, IsMove, Extends}
use Rattle.tg_sharing.specs.Derivations.{IsUnderway, TakesNothing, GoesOn, direct_rule, helper_rules}
use Rattle.tg_islands.proofs.NameTests.{same_refl}
use Rattle.tg_islands.proofs.Helpers.{helper_name-injective}
use Rattle.tg_islands.proofs.OverLinks.{Keeps, keeps, Known, stays, Link, takes, granted, grants, taken, link_of, Gives, extends_then, after_both, move_take, move_granted, move_helped}

abbrev AreHelpersBelow : ℕ → List Name → Type 0
AreHelpersBelow next made = (v : Name) → IsTrue (list_any (same_name v) made) → (k : ℕ) × (k < next) × (v ≡ helper_name k)

-- the right over y goes on to p by more rules
abbrev pub GoesBy : ProtectionGraph → Right → Name → Name → List Rule → List Rule → ℕ → Type 0
GoesBy g right y p rules more next = IsUnderway g right y p (rules ++ more) next × TakesNothing g rules (rules ++ more)

-- more rules that give p the right
underway_more : (g : ProtectionGraph) (right : Right) (y q p : Name) (rules more : List Rule) (next last : ℕ) (made : List Name) (u : IsUnderway g right y q rules next) → Gives (after_all g rules) more made p right y → next ≤ last → AreHelpersBelow last made → ((k : ℕ) → k < last → IsTrue (has_vertex (after_all (after_all g rules) more) (helper_name k))) → GoesBy g right y p rules more last
underway_more g right y q p rules more next last made u gives le below used = (
  record {
    so_far = record {
      made = u.so_far.made ++ made;
      extends = extends_then g rules more u.so_far.made made u.so_far.extends gives.0;
      helpers = λ v h. go v (or_cases (list_any (same_name v) u.so_far.made) (list_any (same_name v) made) (sym (list_any-append (same_name v) u.so_far.made made) ∙ h));
      used = λ k l. subst (λ t. IsTrue (has_vertex t (helper_name k))) (sym (after_both g rules more)) (used k l);
    };
    gives = subst (λ t. IsTrue (t.holds p right y)) (sym (after_both g rules more)) gives.1;
  },
  λ v other w h. subst (λ t. IsTrue (t.holds v other w)) (sym (after_both g rules more)) (gives.0.triples v other w h),
)
  where
    go : (v : Name) → (IsTrue (list_any (same_name v) u.so_far.made)) ⊎ (IsTrue (list_any (same_name v) made)) → (k : ℕ) × (k < last) × (v ≡ helper_name k)
    go v (inl e) = let h = u.so_far.helpers v e in (h.0, omega (arith, h.1), h.2)
    go v (inr e) = below v e

module _ (g : ProtectionGraph) (well : WellFormed g) (right : Right) (y q p : Name) (rules : List Rule) (next : ℕ) (u : IsUnderway g right y q rules next) (y_there : IsTrue (has_vertex g y)) (q_there : IsTrue (has_vertex g q)) (p_there : IsTrue (has_vertex g p)) where
  abbrev now : ProtectionGraph
  now = after_all g rules

  kept : Keeps g now
  kept = keeps g rules u.so_far.made u.so_far.extends

  known : (v : Name) → IsTrue (has_vertex g v) → Known now v
  known v there = stays g now v kept (record { there = there; is_name = well.names v there })

  none_below : AreHelpersBelow next []
  none_below v h = absurd (true≢false (sym h))

  by_rule : (rule : Rule) → Gives now (rule ∷ []) [] p right y → GoesBy g right y p rules (rule ∷ []) next
  by_rule rule gives = underway_more g right y q p rules (rule ∷ []) next next [] u gives (omega arith) none_below (λ k l. (keeps now (rule ∷ []) [] gives.0).vertices (helper_name k) (u.so_far.used k l))

  -- by one rule
  pub underway_direct : (rule : Rule) → direct_rule g right y p q ≡ Some rule → GoesBy g right y p rules (rule ∷ []) next
  underway_direct rule is = go (g.holds p T q) refl (g.holds q G p) refl is
    where
      go : (a : Bool) → g.holds p T q ≡ a → (b : Bool) → g.holds q G p ≡ b → (if a then Some (Take p q y (only right)) else (if b then Some (Grant q p y (only right)) else None)) ≡ Some rule → GoesBy g right y p rules (rule ∷ []) next
      go true e b f is =
          let same : Take p q y (only right) ≡ rule = cc in
          by_rule rule (subst (λ r. Gives now (r ∷ []) [] p right y) same (move_take now p q y right (known p p_there) (known q q_there) (known y y_there) u.gives (kept.triples p T q e)))
      go false e true f is =
          let same : Grant q p y (only right) ≡ rule = cc in
          by_rule rule (subst (λ r. Gives now (r ∷ []) [] p right y) same (move_granted now p q y right (known p p_there) (known q q_there) (known y y_there) u.gives (kept.triples q G p f)))
      go false e false f is = absurd (cc)

  module _ (k : ℕ) (above : next ≤ k) (small : k < 2 ^ 32) (free : has_vertex g (helper_name k) ≡ false) (least : (j : ℕ) → next ≤ j → j < k → has_vertex g (helper_name j) ≡ true) where
    fresh_now : has_vertex now (helper_name k) ≡ false
    fresh_now = false_from_ne_true _ (λ h. go (or_cases (has_vertex g (helper_name k)) (list_any (same_name (helper_name k)) u.so_far.made) (sym (list_any-append (same_name (helper_name k)) g.vertices u.so_far.made) ∙ sym (ap (list_any (same_name (helper_name k))) u.so_far.extends.vertices) ∙ h)))
      where
        go : (IsTrue (has_vertex g (helper_name k))) ⊎ (IsTrue (list_any (same_name (helper_name k)) u.so_far.made)) → ⊥
        go (inl e) = both_ways _ free e
        go (inr e) =
            let h = u.so_far.helpers (helper_name k) e in
            let same : k ≡ h.0 = helper_name-injective k h.0 small (omega (arith, h.1)) h.2 in
            omega (arith, same, h.1)

    -- each number before is in use by now
    pub least_now : IsLeastHelper now k
    least_now = record { free = fresh_now; least = λ j l. go j l (cases_lt j next) }
      where
        go : (j : ℕ) → j < k → (j < next) ⊎ (next ≤ j) → IsTrue (has_vertex now (helper_name j))
        go j l (inl before) = u.so_far.used j before
        go j l (inr from) = kept.vertices (helper_name j) (least j from l)

    used_after : (more : List Rule) → Extends now more (helper_name k ∷ []) → (j : ℕ) → j < k + 1 → IsTrue (has_vertex (after_all now more) (helper_name j))
    used_after more extends j l = go (cases_lt j k)
      where
        go : (j < k) ⊎ (k ≤ j) → IsTrue (has_vertex (after_all now more) (helper_name j))
        go (inl before) = (keeps now more (helper_name k ∷ []) extends).vertices (helper_name j) (least_now.least j before)
        go (inr from) =
            let same : j ≡ k = omega arith in
            ap (list_any (same_name (helper_name j))) extends.vertices
            ∙ list_any-append (same_name (helper_name j)) now.vertices (helper_name k ∷ [])
            ∙ or_right (list_any (same_name (helper_name j)) now.vertices) _ (or_left (same_name (helper_name j) (helper_name k)) false (ap (λ i. same_name (helper_name j) (helper_name i)) (sym same) ∙ same_refl (helper_name j)))

    one_below : AreHelpersBelow (k + 1) (helper_name k ∷ [])
    one_below v h = go (or_cases (same_name v (helper_name k)) false h)
      where
        go : (same_name v (helper_name k) ≡ true) ⊎ (false ≡ true) → (j : ℕ) × (j < k + 1) × (v ≡ helper_name j)
        go (inl e) = (k, omega arith, same_bytes v (helper_name k) e)
        go (inr e) = absurd (true≢false (sym e))

    -- by way of a new vertex
    pub underway_helped : direct_rule g right y p q ≡ None → IsTrue (linked g p q) → GoesBy g right y p rules (helper_rules g right y p q (helper_name k)) (k + 1)
    underway_helped none link =
        let gives = move_helped now p q y right (known p p_there) (known q q_there) (known y y_there) u.gives (helper_name k) (name-decimal k small) fresh_now (g.holds p G q) (λ e. kept.triples p G q e) (λ e. kept.triples q T p (other (link_of g p q link) e)) in
        underway_more g right y q p rules (helper_rules g right y p q (helper_name k)) next (k + 1) (helper_name k ∷ []) u gives (omega arith) one_below (used_after (helper_rules g right y p q (helper_name k)) gives.0)
      where
        no_direct : (a b : Bool) → (if a then Some (Take p q y (only right)) else (if b then Some (Grant q p y (only right)) else None)) ≡ None → (a ≡ false) × (b ≡ false)
        no_direct true b e = absurd (cc)
        no_direct false true e = absurd (cc)
        no_direct false false e = (refl, refl)

        other : Link g p q → g.holds p G q ≡ false → IsTrue (g.holds q T p)
        other (takes e) f = absurd (both_ways _ (no_direct (g.holds p T q) (g.holds q G p) none).0 e)
        other (granted e) f = absurd (both_ways _ (no_direct (g.holds p T q) (g.holds q G p) none).1 e)
        other (grants e) f = absurd (both_ways _ f e)
        other (taken e) f = e

-- both ends of a link are vertices
pub linked_ends : (g : ProtectionGraph) → WellFormed g → (p q : Name) → IsTrue (linked g p q) → IsTrue (has_vertex g p) × IsTrue (has_vertex g q)
linked_ends g well p q link = go (link_of g p q link)
  where
    go : Link g p q → IsTrue (has_vertex g p) × IsTrue (has_vertex g q)
    go (takes e) = well.ends p T q e
    go (granted e) = let ends = well.ends q G p e in (ends.1, ends.0)
    go (grants e) = well.ends p G q e
    go (taken e) = let ends = well.ends q T p e in (ends.1, ends.0)

pub goes_on : (g : ProtectionGraph) (right : Right) (y p q : Name) (rules more all : List Rule) (next last : ℕ) → all ≡ rules ++ more → GoesBy g right y p rules more last → IsMove g (after_all g rules) right y p q more → length more ≤ 4 → last ≤ next + most_vertices + 1 → GoesOn g right y p q rules all next last
goes_on g right y p q rules more all next last e by is_move few low = record {
  underway = subst (λ rs. IsUnderway g right y p rs last) (sym e) by.0;
  kept = subst (λ rs. TakesNothing g rules rs) (sym e) by.1;
  move = more;
  is_move = is_move;
  is = e;
  few = omega (arith, ap length e, length-append rules more);
  low = low;
}
