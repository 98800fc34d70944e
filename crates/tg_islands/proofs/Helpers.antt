-- The helpers' names: `_` and a number in decimal.
use Rattle.std.proofs.Common.{◌≡◌, ℕ, ◌+◌, ◌-◌, ◌^◌, ◌<◌, ◌≤◌, Bool, true, inl, inr, List, [], ◌∷◌, length, sym, ap, ◌∙◌, subst, arith, eq-or-lt_of_le}
use Rattle.std.proofs.lemmas.List.{length-map}
use Rattle.std.specs.Map.{keys_of}
use Rattle.std.specs.List.{list_any}
use Rattle.std.proofs.lemmas.Fmt.{decimal_is_IsNumeral}
use Rattle.std.specs.Str.Parse.{digits_value}
use Rattle.tg_names.specs.Names.{helper_name, Name, same_name}
use Rattle.tg_graph.specs.Graphs.{has_vertex}
use Rattle.tg_graph.specs.GraphOf.{graph_of}
use Rattle.tg_rows.specs.Rows.{Entries, Edges}
use Rattle.tg_names.proofs.Digits.{name-decimal}
use Rattle.tg_islands.specs.Sharing.{HelpersSuffice}
use Rattle.tg_islands.proofs.Fresh.{all_used}

abbrev helper_number : Name → ℕ
helper_number [] = 0
helper_number (b ∷ bs) = digits_value 10 bs

pub helpers_suffice : HelpersSuffice
helpers_suffice vs m le =
    (λ k l. name-decimal k (omega arith), λ used. all_used helper_name helper_number vs m (λ k l. (decimal_is_IsNumeral k (omega arith)).1) used)

number_of : (k : ℕ) → k < 2 ^ 32 → helper_number (helper_name k) ≡ k
number_of k l = (decimal_is_IsNumeral k (omega arith)).1

pub helper_name-injective : (j k : ℕ) → j < 2 ^ 32 → k < 2 ^ 32 → helper_name j ≡ helper_name k → j ≡ k
helper_name-injective j k lj lk e = sym (number_of j lj) ∙ ap helper_number e ∙ number_of k lk

-- helpers' names in a row that are all in use
pub helpers_from : (vs : List Name) (from until : ℕ) → until ≤ 2 ^ 32 → ((k : ℕ) → from ≤ k → k < until → list_any (same_name (helper_name k)) vs ≡ true) → until ≤ from + length vs
helpers_from vs from until le used =
    let few : until - from ≤ length vs = all_used (λ j. helper_name (from + j)) (λ n. helper_number n - from) vs (until - from) (λ j l. ap (λ n. n - from) (number_of (from + j) (omega arith)) ∙ omega arith) (λ j l. used (from + j) (omega arith) (omega arith)) in
    omega arith

pub used_next : (test : ℕ → Bool) (from n : ℕ) → ((k : ℕ) → from ≤ k → k < n → test k ≡ true) → test n ≡ true → (k : ℕ) → from ≤ k → k < n + 1 → test k ≡ true
used_next test from n below here k l h = elim (eq-or-lt_of_le (le_of_lt_suc k n h)) [ inl e ↦ subst (λ j. test j ≡ true) (sym e) here | inr lt ↦ below k l lt ]
  where
    le_of_lt_suc : (k n : ℕ) → k < n + 1 → k ≤ n
    le_of_lt_suc k n h = omega arith

-- helpers' names in a row that are all vertices are no more than there are rows
pub helpers_within : (es : Entries) (from n : ℕ) → n < 2 ^ 32 → ((k : ℕ) → from ≤ k → k < n + 1 → has_vertex (graph_of es) (helper_name k) ≡ true) → n + 1 ≤ from + length es
helpers_within es from n l used = omega (arith, helpers_from (keys_of es) from (n + 1) (omega arith) used, length-keys)
  where
    length-keys : length (keys_of es) ≡ length es
    length-keys = length-map es (λ (e : List ℕ × Edges). e.0)
