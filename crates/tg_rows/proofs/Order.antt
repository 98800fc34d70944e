-- Keys in strict order.
use Rattle.std.proofs.Common.{◌≡◌, ℕ, ◌+◌, false, List, [], Ordering, get_or, refl, sym, ap, ◌∙◌, true≢false, arith, is_lt, nat_cmp, bytes_eq}
use Rattle.std.specs.declared.cmp.Ordering.TheVariants.{Less, Equal, Greater}
use Rattle.std.specs.Cmp.Lexicographic.{slice_cmp, nat_list_cmp_total, texts_ties}
use Rattle.std.specs.Ordering.{ordering_reverse, is_eq}
use Rattle.std.specs.List.{IsDistinct}
use Rattle.std.specs.List.Sorted.{IsSorted, IsStrictlySortedBy}
use Rattle.std.proofs.lemmas.Map.Keys.{sorted_from_all_adjacent, apart_from_distinct}

abbrev name_cmp : List ℕ → List ℕ → Ordering
name_cmp = slice_cmp nat_cmp

less_by : (r s : Ordering) → r ≡ ordering_reverse s → is_lt s ≡ false → is_eq r ≡ false → r ≡ Less
less_by Less s a l e = refl
less_by Equal s a l e = absurd (true≢false e)
less_by Greater Less a l e = absurd (true≢false l)
less_by Greater Equal a l e = absurd (true≢false (sym (ap is_eq a) ∙ e))
less_by Greater Greater a l e = cc

pub strict_from_sorted : (ks : List (List ℕ)) → IsSorted (slice_cmp nat_cmp) ks → IsDistinct bytes_eq ks → IsStrictlySortedBy (slice_cmp nat_cmp) ks
strict_from_sorted ks up apart =
    sorted_from_all_adjacent nat_list_cmp_total ks [] (λ k h.
    less_by _ _ (nat_list_cmp_total.antisymm (get_or ks k []) (get_or ks (k + 1) [])) (up k [] (omega arith) h)
    (sym (texts_ties (get_or ks k []) (get_or ks (k + 1) [])) ∙ apart_from_distinct bytes_eq ks k (k + 1) [] apart (omega arith) h))

pub not_less : (r s : Ordering) → r ≡ Less → s ≡ ordering_reverse r → is_lt s ≡ false
not_less r s e f = ap is_lt (f ∙ ap ordering_reverse e)
