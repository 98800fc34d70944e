-- Names with a label for each.
use Rattle.std.proofs.Common.{◌≡◌, ℕ, zero, suc, ◌<◌, ◌≤◌, ◌+◌, List, [], ◌∷◌, ◌++◌, length, get_or, set, take, sym, ap, ◌∙◌, arith, refl}
use Rattle.std.specs.List.{zip}
use Rattle.std.proofs.lemmas.List.{take_more}
use Rattle.std.proofs.lemmas.Slice.Zip.{length-zip, get_or-zip}

module _ {K X : Type 0} where
  pub zip-nil : (ks : List K) (vs : List X) → vs ≡ [] → zip ks vs ≡ []
  zip-nil [] vs e = refl
  zip-nil (k ∷ ks) vs e = ap (zip (k ∷ ks)) e

  pub zip-push : (ks : List K) (vs : List X) (v : X) (d : K) → length vs < length ks → zip ks (vs ++ v ∷ []) ≡ zip ks vs ++ (get_or ks (length vs) d, v) ∷ []
  zip-push [] vs v d h = absurd (omega arith)
  zip-push (k ∷ ks) [] v d h = ap (λ es. (k, v) ∷ es) (zip-nil ks [] refl)
  zip-push (k ∷ ks) (x ∷ vs) v d h = ap (λ es. (k, x) ∷ es) (zip-push ks vs v d (omega arith))

  pub zip-set : (ks : List K) (vs : List X) (i : ℕ) (v : X) (d : K) → zip ks (set vs i v) ≡ set (zip ks vs) i (get_or ks i d, v)
  zip-set [] vs i v d = refl
  zip-set (k ∷ ks) [] i v d = refl
  zip-set (k ∷ ks) (x ∷ vs) zero v d = refl
  zip-set (k ∷ ks) (x ∷ vs) (suc i) v d = ap (λ es. (k, x) ∷ es) (zip-set ks vs i v d)

  -- one more label
  pub labelled_more : (ks : List K) (vs : List X) (es : List (K × X)) (i : ℕ) (v : X) (d : K × X) → length vs ≡ i → i < length ks → i < length es → get_or ks i d.0 ≡ (get_or es i d).0 → v ≡ (get_or es i d).1 → zip ks vs ≡ take i es → zip ks (vs ++ v ∷ []) ≡ take (i + 1) es
  labelled_more ks vs es i v d long in_names in_list target label e =
      zip-push ks vs v d.0 (omega arith)
      ∙ (λ j. e j ++ ((ap (λ n. get_or ks n d.0) long ∙ target) j, label j) ∷ [])
      ∙ sym (take_more es i d in_list)

-- the edges that names and their labels make
module _ {K X : Type 0} (ks : List K) (vs : List X) (es : List (K × X)) (view : zip ks vs ≡ es) (long : length vs ≤ length ks) where
  pub labelled-length : length vs ≡ length es
  labelled-length = omega (arith, length-zip ks vs, ap length view)

  pub labelled-at : (i : ℕ) (d : K × X) → i < length es → get_or es i d ≡ (get_or ks i d.0, get_or vs i d.1)
  labelled-at i d h = ap (λ l. get_or l i d) (sym view) ∙ get_or-zip ks vs i d (omega (arith, labelled-length)) (omega (arith, labelled-length))
