-- The positions of a draft's vertices.
use Rattle.std.proofs.Common.{◌≡◌, ℕ, zero, suc, ◌+◌, Bool, true, false, List, [], ◌∷◌, ◌++◌, length, map, Option, None, Some, MatchOption, IfSome, get_or, refl, sym, ap, ◌∙◌, bytes_eq, is_some, true≢false, arith, ◌≤◌, ◌||◌}
use Rattle.std.specs.Prelude.{if◌then◌else◌, slice_get, position}
use Rattle.std.specs.List.{IsDistinct, AllByRecursion}
use Rattle.std.proofs.lemmas.List.{length-append, map-append}
use Rattle.std.proofs.lemmas.List.Folds.{list_any-append}
use Rattle.std.proofs.lemmas.List.Quantifiers.{position-Some}
use Rattle.std.proofs.Math.Bool.{or-true}
use Rattle.std.proofs.lemmas.Option.{none-some, same_Some, slice_get-get_or}
use Rattle.std.specs.Cmp.Lexicographic.{nat_list_eq_equiv}
use Rattle.indexmap.specs.IndexSet.{insert_key, insert_all as set_all}
use Rattle.tg_graph.specs.Drafts.{NotesPosition}
use Rattle.tg_graph.proofs.NewNames.{is_among, set-push}
use Rattle.tg_rows.proofs.Rows.{symm, same_bytes}
use Rattle.tg_graph.proofs.TakenOver.{keys-kept}
use Rattle.std.specs.Map.{keys_of}
use Rattle.std.proofs.lemmas.Map.Made.{is_some-lookup}
use Rattle.indexmap.proofs.MapLemmas.{some_index}
use Rattle.tg_rows.specs.Rows.{Entries, is_known}

-- ---- where a name stands
pub at-position : (ks : List (List ℕ)) (v : List ℕ) (p : ℕ) → position (bytes_eq v) ks ≡ Some p → slice_get ks p ≡ Some v
at-position ks v p e =
    let h = position-Some (bytes_eq v) ks p v e in slice_get-get_or ks p v h.0 ∙ ap Some (sym (same_bytes v (get_or ks p v) h.1))

pub place-of : (ks : List (List ℕ)) (v : List ℕ) (o : Option ℕ) → position (bytes_eq v) ks ≡ o → IfSome o (λ p. slice_get ks p ≡ Some v)
place-of ks v None e = tt
place-of ks v (Some p) e = at-position ks v p e

pub among-at : (ks : List (List ℕ)) (v : List ℕ) (p : ℕ) → slice_get ks p ≡ Some v → is_among ks v ≡ true
among-at [] v p e = absurd (none-some v e)
among-at (k ∷ ks) v zero e = ap (λ b. b || is_among ks v) (ap (bytes_eq v) (same_Some k v e) ∙ nat_list_eq_equiv.refl v)
among-at (k ∷ ks) v (suc p) e = ap (λ b. bytes_eq v k || b) (among-at ks v p e) ∙ or-true (bytes_eq v k)

-- ---- what stands at a position stays there
pub at-append : (xs ys : List (List ℕ)) (p : ℕ) (v : List ℕ) → slice_get xs p ≡ Some v → slice_get (xs ++ ys) p ≡ Some v
at-append [] ys p v e = absurd (none-some v e)
at-append (x ∷ xs) ys zero v e = e
at-append (x ∷ xs) ys (suc p) v e = at-append xs ys p v e

at-last : (xs : List (List ℕ)) (v : List ℕ) → slice_get (xs ++ v ∷ []) (length xs) ≡ Some v
at-last [] v = refl
at-last (x ∷ xs) v = at-last xs v

at-key : (ks : List (List ℕ)) (x : List ℕ) (p : ℕ) (v : List ℕ) → slice_get ks p ≡ Some v → slice_get (insert_key bytes_eq ks x) p ≡ Some v
at-key ks x p v e = by (is_among ks x)
  where
    by : (b : Bool) → slice_get (if b then ks else ks ++ x ∷ []) p ≡ Some v
    by true = e
    by false = at-append ks (x ∷ []) p v e

at-keys : (ks xs : List (List ℕ)) (p : ℕ) (v : List ℕ) → slice_get ks p ≡ Some v → slice_get (set_all bytes_eq ks xs) p ≡ Some v
at-keys ks [] p v e = e
at-keys ks (x ∷ xs) p v e = at-keys (insert_key bytes_eq ks x) xs p v (at-key ks x p v e)

all_stay : (ks : List (List ℕ)) (x : List ℕ) (ps : List ℕ) (names : List (List ℕ)) → map (slice_get ks) ps ≡ map Some names → map (slice_get (insert_key bytes_eq ks x)) ps ≡ map Some names
all_stay ks x [] names e = e
all_stay ks x (p ∷ ps) [] e = absurd (no_items (slice_get ks p) (map (slice_get ks) ps) e)
  where
    no_items : (o : Option (List ℕ)) (os : List (Option (List ℕ))) → o ∷ os ≡ [] → ⊥
    no_items o os e = cc
all_stay ks x (p ∷ ps) (n ∷ names) e =
    let first : slice_get ks p ≡ Some n = cc in
    let rest : map (slice_get ks) ps ≡ map Some names = cc in
    λ i. at-key ks x p n first i ∷ all_stay ks x ps names rest i

-- ---- new names
among_all : (ks xs : List (List ℕ)) (v : List ℕ) → is_among ks v ≡ false → is_among xs v ≡ false → is_among (set_all bytes_eq ks xs) v ≡ false
among_all ks [] v h k = h
among_all ks (x ∷ xs) v h k = among_all (insert_key bytes_eq ks x) xs v (by (is_among ks x)) (neither.1)
  where
    parts : (a b : Bool) → (a || b) ≡ false → (a ≡ false) × (b ≡ false)
    parts true b e = absurd (true≢false e)
    parts false b e = (refl, e)

    neither : (bytes_eq v x ≡ false) × (is_among xs v ≡ false)
    neither = parts (bytes_eq v x) (is_among xs v) k

    by : (b : Bool) → is_among (if b then ks else ks ++ x ∷ []) v ≡ false
    by true = h
    by false = list_any-append (bytes_eq v) ks (x ∷ []) ∙ (λ i. h i || (neither.0 i || false))

-- no name stands again after itself
pub not_before : (done : List (List ℕ)) (x : List ℕ) (rest : List (List ℕ)) → IsDistinct bytes_eq (done ++ x ∷ rest) → is_among done x ≡ false
unfolding IsDistinct
not_before [] x rest d = refl
not_before (k ∷ done) x rest d =
    (λ i. (symm x k ∙ among done d.0) i || not_before done x rest d.1 i)
  where
    among : (done : List (List ℕ)) → AllByRecursion (λ z. bytes_eq k z ≡ false) (done ++ x ∷ rest) → bytes_eq k x ≡ false
    among [] h = h.0
    among (y ∷ done) h = among done h.1

-- ---- the position of one name more
module _ (base : Entries) (done : List (List ℕ)) (x : List ℕ) (next later : ℕ) (old new : List ℕ) where
  abbrev vertices : List (List ℕ)
  vertices = set_all bytes_eq (keys_of base) done

  abbrev more : List (List ℕ)
  more = set_all bytes_eq (keys_of base) (done ++ x ∷ [])

  pub record Noted : Type 0 where
    pub stand : map (slice_get more) new ≡ map Some (done ++ x ∷ [])
    pub next_is : later ≡ length more

  noted : (p : ℕ) → map (slice_get vertices) old ≡ map Some done → slice_get more p ≡ Some x → new ≡ old ++ p ∷ [] → map (slice_get more) new ≡ map Some (done ++ x ∷ [])
  noted p stand at e =
      ap (map (slice_get more)) e
      ∙ map-append (slice_get more) old (p ∷ [])
      ∙ (λ i. (ap (λ ks. map (slice_get ks) old) (set-push (keys_of base) done x) ∙ all_stay vertices x old done stand) i ++ at i ∷ [])
      ∙ sym (map-append Some done (x ∷ []))

  pub noted-more : is_among done x ≡ false → map (slice_get vertices) old ≡ map Some done → next ≡ length vertices → NotesPosition (keys_of base) x next old new later → Noted
  noted-more fresh stand is notes = by (position (bytes_eq x) (keys_of base)) refl notes
    where
      by : (o : Option ℕ) → position (bytes_eq x) (keys_of base) ≡ o → MatchOption o ((new ≡ old ++ next ∷ []) × (later ≡ next + 1)) (λ found. (new ≡ old ++ found ∷ []) × (later ≡ next)) → Noted
      by None e n =
          let absent : is_known base x ≡ false = sym (is_some-lookup (bytes_eq x) base) ∙ sym (some_index (bytes_eq x) base) ∙ ap is_some e in
          let last : more ≡ vertices ++ x ∷ [] = set-push (keys_of base) done x ∙ ap (λ b. if b then vertices else vertices ++ x ∷ []) (among_all (keys_of base) done x absent fresh) in
          record {
            stand = noted next stand (ap (λ ks. slice_get ks next) last ∙ ap (slice_get (vertices ++ x ∷ [])) is ∙ at-last vertices x) n.0;
            next_is = n.1 ∙ ap (λ k. k + 1) is ∙ sym (ap length last ∙ length-append vertices (x ∷ []));
          }
      by (Some p) e n =
          let found = position-Some (bytes_eq x) (keys_of base) p x e in
          let at : slice_get (keys_of base) p ≡ Some x = slice_get-get_or (keys_of base) p x found.0 ∙ ap Some (sym (same_bytes x _ found.1)) in
          let known : is_known base x ≡ true = sym (is_some-lookup (bytes_eq x) base) ∙ sym (some_index (bytes_eq x) base) ∙ ap is_some e in
          let same : more ≡ vertices = set-push (keys_of base) done x ∙ ap (λ b. if b then vertices else vertices ++ x ∷ []) (keys-kept (keys_of base) done x known) in
          record {
            stand = noted p stand (at-keys (keys_of base) (done ++ x ∷ []) p x at) n.0;
            next_is = n.1 ∙ is ∙ ap length (sym same);
          }

-- ---- how many names there are
length-key : (ks : List (List ℕ)) (x : List ℕ) → length (insert_key bytes_eq ks x) ≤ length ks + 1
length-key ks x = by (is_among ks x)
  where
    by : (b : Bool) → length (if b then ks else ks ++ x ∷ []) ≤ length ks + 1
    by true = omega arith
    by false = omega (arith, length-append ks (x ∷ []))

pub length-keys_set : (ks xs : List (List ℕ)) → length (set_all bytes_eq ks xs) ≤ length ks + length xs
length-keys_set ks [] = omega arith
length-keys_set ks (x ∷ xs) = omega (arith, length-key ks x, length-keys_set (insert_key bytes_eq ks x) xs)
