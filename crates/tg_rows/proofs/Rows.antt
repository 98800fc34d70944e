-- Rows.
use Rattle.std.proofs.Common.{◌≡◌, ℕ, Bool, true, false, cond, List, [], Option, Some, None, refl, sym, ap, subst, ◌∙◌, bytes_eq, IfSome, ◌&&◌, ◌||◌, not, unwrap_or, is_some, bit_or, bit_and, w8, ◌<◌, arith, Result, Ok, Err, IsOk, OnOk, OnErr, true≢false}
use Rattle.std.specs.Map.{lookup}
use Rattle.std.specs.List.Sorted.{IsStrictlySortedBy}
use Rattle.tg_names.specs.declared.right_sets.Rights.{Rights}
use Rattle.tg_rows.specs.Rows.{Edges, IsRow, IsLabel, AreLabelled, Puts, Adds, TakesAway, label_in, is_target}
use Rattle.tg_names.specs.declared.right_sets.Right.{Right}
use Rattle.tg_names.specs.Sets.{member, nothing, IsNamed}
use Rattle.tg_names.proofs.Sets.{member-union, named-union, member-nothing, member-difference}
use Rattle.std.specs.Int.{bit_not}
use Rattle.std.proofs.Math.Bool.{or-false, or-true, and-true}
use Rattle.std.specs.Int.Bits.{or_zero_l}
use Rattle.std.specs.Cmp.Lexicographic.{nat_list_eq_equiv}
use Rattle.std.proofs.lemmas.Slice.Eq.{bytes_eq-Decides}
use Rattle.std.proofs.lemmas.Nat.{le_or_r, and_le_l}

pub row_none : (row : Edges) → row ≡ [] → IsRow row
unfolding IsStrictlySortedBy
row_none row e = subst IsRow (sym e) (record { sorted = tt; labelled = λ v. tt })

pub labelled-puts : (old new : Edges) (y : List ℕ) (w : Option Rights) → AreLabelled old → Puts old new y w → IfSome w IsLabel → AreLabelled new
labelled-puts old new y w h p l v = subst (λ o. IfSome o IsLabel) (sym (p v)) (by (bytes_eq y v))
  where
    by : (b : Bool) → IfSome (cond b w (lookup (bytes_eq v) old)) IsLabel
    by true = l
    by false = h v

pub symm : (x y : List ℕ) → bytes_eq x y ≡ bytes_eq y x
symm = nat_list_eq_equiv.symm

pub same_bytes : (x y : List ℕ) → bytes_eq x y ≡ true → x ≡ y
same_bytes x y = (bytes_eq-Decides x y).0

module _ (old new : Edges) (y : List ℕ) (s : Rights) where
  module _ (label : Rights) (sum : label.0 ≡ bit_or (label_in old y).0 s.0) (p : Puts old new y (Some label)) where
    pub adds-from_puts : Adds old new y s
    adds-from_puts = record { members = λ v right. at v right (bytes_eq y v) refl; targets = λ v h. known v (bytes_eq y v) refl h }
      where
        at : (v : List ℕ) (right : Right) (b : Bool) → bytes_eq y v ≡ b → member (label_in new v) right ≡ (member (label_in old v) right || (bytes_eq v y && member s right))
        at v right true e =
            ap (λ o. member (unwrap_or o nothing) right) (p v ∙ ap (λ b. cond b (Some label) (lookup (bytes_eq v) old)) e)
            ∙ member-union (label_in old y) s label sum right
            ∙ (λ i. member (label_in old (same_bytes y v e i)) right || (sym (symm v y ∙ e) i && member s right))
        at v right false e =
            ap (λ o. member (unwrap_or o nothing) right) (p v ∙ ap (λ b. cond b (Some label) (lookup (bytes_eq v) old)) e)
            ∙ sym (or-false (member (label_in old v) right))
            ∙ (λ i. member (label_in old v) right || (sym (symm v y ∙ e) i && member s right))

        known : (v : List ℕ) (b : Bool) → bytes_eq y v ≡ b → is_target new v ≡ true → (is_target old v || bytes_eq v y) ≡ true
        known v true e h = ap (λ b. is_target old v || b) (symm v y ∙ e) ∙ or-true (is_target old v)
        known v false e h = ap (λ b. is_target old v || b) (symm v y ∙ e) ∙ or-false (is_target old v) ∙ sym (ap is_some (p v ∙ ap (λ b. cond b (Some label) (lookup (bytes_eq v) old)) e)) ∙ h

  -- what is left of the label, or no edge
  module _ (w : Option Rights) (left : (right : Right) → member (unwrap_or w nothing) right ≡ (member (label_in old y) right && not (member s right))) (p : Puts old new y w) (there : is_some w ≡ true → is_target old y ≡ true) where
    pub takes-from_puts : TakesAway old new y s
    takes-from_puts = record { members = λ v right. at v right (bytes_eq y v) refl; targets = λ v h. known v (bytes_eq y v) refl h }
      where
        at : (v : List ℕ) (right : Right) (b : Bool) → bytes_eq y v ≡ b → member (label_in new v) right ≡ (member (label_in old v) right && not (bytes_eq v y && member s right))
        at v right true e =
            ap (λ o. member (unwrap_or o nothing) right) (p v ∙ ap (λ b. cond b w (lookup (bytes_eq v) old)) e)
            ∙ left right
            ∙ (λ i. member (label_in old (same_bytes y v e i)) right && not (sym (symm v y ∙ e) i && member s right))
        at v right false e =
            ap (λ o. member (unwrap_or o nothing) right) (p v ∙ ap (λ b. cond b w (lookup (bytes_eq v) old)) e)
            ∙ sym (and-true (member (label_in old v) right))
            ∙ (λ i. member (label_in old v) right && not (sym (symm v y ∙ e) i && member s right))

        known : (v : List ℕ) (b : Bool) → bytes_eq y v ≡ b → is_target new v ≡ true → is_target old v ≡ true
        known v true e h = ap (is_target old) (sym (same_bytes y v e)) ∙ there (sym (ap is_some (p v ∙ ap (λ b. cond b w (lookup (bytes_eq v) old)) e)) ∙ h)
        known v false e h = sym (ap is_some (p v ∙ ap (λ b. cond b w (lookup (bytes_eq v) old)) e)) ∙ h

pub label-union : (a s c : Rights) → c.0 ≡ bit_or a.0 s.0 → IsNamed a → IsLabel s → IsLabel c
label-union a s c e n l = record { some = omega (arith, e, le_or_r a.0 s.0, l.some); named = named-union a s c e n l.named }

-- a new edge
pub adds-new : (old new : Edges) (y : List ℕ) (s : Rights) → lookup (bytes_eq y) old ≡ None → Puts old new y (Some s) → Adds old new y s
adds-new old new y s e p = adds-from_puts old new y s s (sym (ap (λ o. bit_or (unwrap_or o nothing).0 s.0) e ∙ or_zero_l s.0)) p

-- no edge, and so nothing to take
pub takes-nothing : (row : Edges) (y : List ℕ) (s : Rights) → lookup (bytes_eq y) row ≡ None → TakesAway row row y s
takes-nothing row y s e = record { members = λ v right. at v right (bytes_eq v y) refl; targets = λ v h. h }
  where
    empty : (v : List ℕ) (right : Right) → bytes_eq v y ≡ true → member (label_in row v) right ≡ false
    empty v right t = ap (λ u. member (label_in row u) right) (same_bytes v y t) ∙ ap (λ o. member (unwrap_or o nothing) right) e ∙ member-nothing right

    at : (v : List ℕ) (right : Right) (b : Bool) → bytes_eq v y ≡ b → member (label_in row v) right ≡ (member (label_in row v) right && not (bytes_eq v y && member s right))
    at v right true t = empty v right t ∙ sym (ap (λ b. b && not (bytes_eq v y && member s right)) (empty v right t))
    at v right false t = sym (and-true (member (label_in row v) right)) ∙ ap (λ b. member (label_in row v) right && not (b && member s right)) (sym t)

pub adds-nothing : (row : Edges) (y : List ℕ) (s : Rights) → s.0 ≡ 0 → Adds row row y s
adds-nothing row y s e = record {
  members = λ v right. sym (or-false (member (label_in row v) right)) ∙ ap (λ b. member (label_in row v) right || b) (none v right (bytes_eq v y));
  targets = λ v h. ap (λ b. b || bytes_eq v y) h;
}
  where
    none : (v : List ℕ) (right : Right) (b : Bool) → false ≡ (b && member s right)
    none v right true = sym (ap (λ n. member (record { 0 = n }) right) e ∙ member-nothing right)
    none v right false = refl

pub on_ok-is : {T E P : Type 0} (r : Result T E) → IsOk r → OnOk r P → P
on_ok-is (Ok x) o p = p
on_ok-is (Err e) o p = absurd (true≢false (sym o))

pub on_err_from : {T E P : Type 0} (r : Result T E) → P → OnErr r P
on_err_from (Ok x) p = tt
on_err_from (Err e) p = p

pub on_either : {T E P Q G : Type 0} (r : Result T E) → (P → G) → (Q → G) → OnOk r P → OnErr r Q → G
on_either (Ok x) f g p q = f p
on_either (Err e) f g p q = g q

pub target_from_label : (row : Edges) (y : List ℕ) → 0 < (label_in row y).0 → is_target row y ≡ true
target_from_label row y = by (lookup (bytes_eq y) row)
  where
    by : (o : Option Rights) → 0 < (unwrap_or o nothing).0 → is_some o ≡ true
    by None h = absurd (omega arith)
    by (Some s) h = refl

-- the label after `difference`, as what is left of an edge or as no edge
pub taken-left : (old new : Edges) (y : List ℕ) (s left : Rights) → left.0 ≡ bit_and (label_in old y).0 (bit_not w8 s.0) → IsNamed s → 0 < left.0 → Puts old new y (Some left) → TakesAway old new y s
taken-left old new y s left e n h p =
    takes-from_puts old new y s (Some left) (member-difference (label_in old y) s left e (omega (arith, n))) p (λ _. target_from_label old y (omega (arith, e, and_le_l (label_in old y).0 (bit_not w8 s.0))))

pub taken-whole : (old new : Edges) (y : List ℕ) (s left : Rights) → left.0 ≡ bit_and (label_in old y).0 (bit_not w8 s.0) → IsNamed s → left.0 ≡ 0 → Puts old new y None → TakesAway old new y s
taken-whole old new y s left e n h p =
    takes-from_puts old new y s None (λ right. ap (λ n. member (record { 0 = n }) right) (sym h) ∙ member-difference (label_in old y) s left e (omega (arith, n)) right) p (λ e. absurd (true≢false (sym e)))
