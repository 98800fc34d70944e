-- Lists of names to which those are added that are not there yet.
use Rattle.std.proofs.Common.{◌≡◌, ℕ, Bool, true, false, cond, List, [], ◌∷◌, ◌++◌, refl, sym, ap, ◌∙◌, bytes_eq, true≢false, ◌||◌, ◌&&◌, not}
use Rattle.std.specs.Prelude.{if◌then◌else◌, filter}
use Rattle.std.specs.List.{list_any, IsDistinct, AllByRecursion}
use Rattle.std.specs.Cmp.Lexicographic.{nat_list_eq_equiv}
use Rattle.std.proofs.Math.Bool.{or-false, or-true}
use Rattle.std.proofs.lemmas.List.{append-nil, append_assoc}
use Rattle.std.proofs.lemmas.List.Folds.{list_any-append}
use Rattle.std.proofs.lemmas.Map.Views.{any-filter_same}
use Rattle.indexmap.specs.IndexSet.{insert_key, insert_all}
use Rattle.tg_rows.proofs.Rows.{same_bytes}

abbrev pub is_among : List (List ℕ) → List ℕ → Bool
is_among ks v = list_any (bytes_eq v) ks

-- those that are not among ks
abbrev pub new_names : List (List ℕ) → List (List ℕ) → List (List ℕ)
new_names ks xs = filter (λ v. not (is_among ks v)) xs

-- tests that agree on the names of a list keep the same of them
pub filter-alike : (p q : List ℕ → Bool) (xs : List (List ℕ)) → ((v : List ℕ) → is_among xs v ≡ true → p v ≡ q v) → filter p xs ≡ filter q xs
filter-alike p q [] h = refl
filter-alike p q (x ∷ xs) h =
    ap (λ b. cond b (x ∷ filter p xs) (filter p xs)) (h x (ap (λ b. b || is_among xs x) (nat_list_eq_equiv.refl x)))
    ∙ ap (λ l. cond (q x) (x ∷ l) l) (filter-alike p q xs (λ v m. h v (ap (λ b. bytes_eq v x || b) m ∙ or-true (bytes_eq v x))))

pub among-filter : (p : List ℕ → Bool) (xs : List (List ℕ)) (v : List ℕ) → is_among (filter p xs) v ≡ (p v && is_among xs v)
among-filter p xs v = any-filter_same (bytes_eq v) p (p v) (λ k t. ap p (sym (same_bytes v k t))) xs

pub not_among : (x : List ℕ) (xs : List (List ℕ)) → AllByRecursion (λ y. bytes_eq x y ≡ false) xs → is_among xs x ≡ false
not_among x [] h = refl
not_among x (y ∷ ys) h = ap (λ b. b || is_among ys x) h.0 ∙ not_among x ys h.1

-- a name that is none of xs keeps none of them from being new
new_names-push : (ks : List (List ℕ)) (x : List ℕ) (xs : List (List ℕ)) → is_among xs x ≡ false → new_names (ks ++ x ∷ []) xs ≡ new_names ks xs
new_names-push ks x xs h = filter-alike (λ v. not (is_among (ks ++ x ∷ []) v)) (λ v. not (is_among ks v)) xs (λ v m. ap not (list_any-append (bytes_eq v) ks (x ∷ []) ∙ by v m (bytes_eq v x) refl))
  where
    by : (v : List ℕ) → is_among xs v ≡ true → (b : Bool) → bytes_eq v x ≡ b → (is_among ks v || (bytes_eq v x || false)) ≡ is_among ks v
    by v m true e = absurd (true≢false (sym m ∙ ap (is_among xs) (same_bytes v x e) ∙ h))
    by v m false e = ap (λ b. is_among ks v || (b || false)) e ∙ or-false (is_among ks v)

-- they go last, in their order
pub set-new : (ks xs : List (List ℕ)) → IsDistinct bytes_eq xs → insert_all bytes_eq ks xs ≡ ks ++ new_names ks xs
unfolding IsDistinct
set-new ks [] d = sym (append-nil ks)
set-new ks (x ∷ xs) d = set-new (insert_key bytes_eq ks x) xs d.1 ∙ by (is_among ks x) refl
  where
    by : (b : Bool) → is_among ks x ≡ b → insert_key bytes_eq ks x ++ new_names (insert_key bytes_eq ks x) xs ≡ ks ++ new_names ks (x ∷ xs)
    by true e =
        ap (λ b. (if b then ks else ks ++ x ∷ []) ++ new_names (if b then ks else ks ++ x ∷ []) xs) e
        ∙ sym (ap (λ b. ks ++ cond (not b) (x ∷ new_names ks xs) (new_names ks xs)) e)
    by false e =
        ap (λ b. (if b then ks else ks ++ x ∷ []) ++ new_names (if b then ks else ks ++ x ∷ []) xs) e
        ∙ append_assoc ks (x ∷ []) (new_names (ks ++ x ∷ []) xs)
        ∙ ap (λ l. ks ++ x ∷ l) (new_names-push ks x xs (not_among x xs d.0))
        ∙ sym (ap (λ b. ks ++ cond (not b) (x ∷ new_names ks xs) (new_names ks xs)) e)

pub set-push : (ks xs : List (List ℕ)) (x : List ℕ) → insert_all bytes_eq ks (xs ++ x ∷ []) ≡ insert_key bytes_eq (insert_all bytes_eq ks xs) x
set-push ks [] x = refl
set-push ks (y ∷ xs) x = set-push (insert_key bytes_eq ks y) xs x
