-- Lists of edges whose targets are numbers.
use Rattle.std.proofs.Common.{◌≡◌, ℕ, zero, suc, ◌<◌, ◌≤◌, ◌+◌, ◌-◌, List, [], ◌∷◌, ◌++◌, length, get_or, set, take, drop, Some, slice_get, Option, None, Bor, sym, ap, subst, ◌∙◌, arith, add-one, refl}
use Rattle.std.specs.List.{insert, remove, copy_within, AllByRecursion}
use Rattle.std.specs.Option.{option_map}
use Rattle.std.specs.Slice.{IsGetResult}
use Rattle.std.proofs.lemmas.List.{get_or_append_left, length-append, length-take-le, length-drop, take-append-le, drop-append-le, drop_all, append-nil, append_assoc}
use Rattle.std.proofs.Math.Seq.{take-suc, take-append_seam, set-append_seam}
use Rattle.std.proofs.lemmas.Option.{get_or_from_slice_get, slice_get_within, slice_get_past, slice_get-get_or}
use Rattle.tg_names.specs.declared.right_sets.Rights.{Rights}
use Rattle.tg_rows.specs.declared.listed_edges.Edge.{Edge}
use Rattle.tg_names.specs.Names.{Name}
use Rattle.tg_rows.specs.EdgeLists.{number_of, label_on, named, edges_of, AreWithin, AreNumbered, Extends}

-- what `get` reads, as the list's own reading
pub read_by_get : {X : Type 0} (xs : List X) (i : ℕ) (r : Option (Bor X)) → IsGetResult xs i i r → option_map (λ (x : Bor X). x.now) r ≡ slice_get xs i
read_by_get xs i None h = sym (slice_get_past xs i h.3)
read_by_get xs i (Some x) h = ap Some h.1 ∙ sym (slice_get-get_or xs i x.now h.3.0)

-- an item is put in: behind the others first, then those behind its place move on by one
pub inserted : {X : Type 0} (xs : List X) (i : ℕ) (x : X) → i ≤ length xs → set (copy_within (xs ++ x ∷ []) i (length xs) (i + 1)) i x ≡ insert xs i x
inserted xs i x h =
    let all = xs ++ x ∷ [] in
    let front = take i xs in
    let back = drop i xs in
    let z = get_or all i x in
    let whole : length all ≡ length xs + 1 = length-append xs (x ∷ []) in
    let at : length front ≡ i = length-take-le i xs h in
    let kept : take (i + 1) all ≡ front ++ z ∷ [] = ap (λ k. take k all) (add-one i) ∙ take-suc all i x (omega (arith, whole, h)) ∙ ap (λ l. l ++ z ∷ []) (take-append-le i xs (x ∷ []) h) in
    let moved : take (length xs - i) (drop i all) ≡ back =
    (λ j. take (sym (length-drop i xs) j) (drop-append-le i xs (x ∷ []) h j)) ∙ take-append_seam back (x ∷ []) in
    let none : drop ((i + 1) + (length xs - i)) all ≡ [] = drop_all ((i + 1) + (length xs - i)) all (omega (arith, whole, h)) in
    let copied : copy_within all i (length xs) (i + 1) ≡ front ++ z ∷ back =
    (λ j. (kept j ++ moved j) ++ none j) ∙ append-nil ((front ++ z ∷ []) ++ back) ∙ append_assoc front (z ∷ []) back in
    (λ j. set (copied j) (sym at j) x) ∙ set-append_seam front z back x

-- ---- what holds of each item, after an edit
module _ {X : Type 0} (P : X → Type 0) where
  pub each-insert : (xs : List X) (i : ℕ) (x : X) → AllByRecursion P xs → P x → AllByRecursion P (insert xs i x)
  each-insert xs zero x h p = (p, h)
  each-insert [] (suc i) x h p = (p, tt)
  each-insert (y ∷ xs) (suc i) x h p = (h.0, each-insert xs i x h.1 p)

  pub each-remove : (xs : List X) (i : ℕ) → AllByRecursion P xs → AllByRecursion P (remove xs i)
  each-remove [] zero h = tt
  each-remove [] (suc i) h = tt
  each-remove (x ∷ xs) zero h = h.1
  each-remove (x ∷ xs) (suc i) h = (h.0, each-remove xs i h.1)

  pub each-set : (xs : List X) (i : ℕ) (x : X) → AllByRecursion P xs → P x → AllByRecursion P (set xs i x)
  each-set [] i x h p = tt
  each-set (y ∷ xs) zero x h p = (p, h.1)
  each-set (y ∷ xs) (suc i) x h p = (h.0, each-set xs i x h.1 p)

  pub each-at : (xs : List X) (i : ℕ) (d : X) → i < length xs → AllByRecursion P xs → P (get_or xs i d)
  each-at [] i d l h = absurd (omega arith)
  each-at (x ∷ xs) zero d l h = h.0
  each-at (x ∷ xs) (suc i) d l h = each-at xs i d (omega arith) h.1

-- ---- more names
module _ (old new : List Name) (x : Extends old new) where
  longer : length old ≤ length new
  longer = omega (arith, ap length x.behind, length-append old x.more)

  named-extends : (e : Edge) → number_of e < length old → named new e ≡ named old e
  named-extends e h = ap (λ (n : Name). (n, label_on e)) (ap (λ ns. get_or ns (number_of e) []) x.behind ∙ get_or_append_left old x.more [] (number_of e) h)

  pub edges-extends : (es : List Edge) → AreWithin old es → edges_of new es ≡ edges_of old es
  edges-extends [] h = refl
  edges-extends (e ∷ es) h = (λ i. named-extends e h.0 i ∷ edges-extends es h.1 i)

  pub within-extends : (es : List Edge) → AreWithin old es → AreWithin new es
  within-extends [] h = tt
  within-extends (e ∷ es) h = (omega (arith, h.0, longer), within-extends es h.1)

-- ---- one edge
pub named-is : (names : List Name) (e : Edge) (y : Name) (label : Rights) (n : ℕ) → slice_get names n ≡ Some y → number_of e ≡ n → label_on e ≡ label → named names e ≡ (y, label)
named-is names e y label n at number l = (λ i. ((ap (λ k. get_or names k []) number ∙ get_or_from_slice_get names n y [] at) i, l i))

-- ---- a list up to a place
take_suc : {X : Type 0} (xs : List X) (i : ℕ) (x : X) → slice_get xs i ≡ Some x → insert (take i xs) i x ≡ take (suc i) xs
take_suc [] i x h = absurd (omega (arith, slice_get_within [] i x h))
take_suc (y ∷ xs) zero x h = ap (λ z. z ∷ []) (sym (get_or_from_slice_get (y ∷ xs) 0 x x h))
take_suc (y ∷ xs) (suc i) x h = ap (λ zs. y ∷ zs) (take_suc xs i x h)

pub take_one : {X : Type 0} (xs : List X) (i : ℕ) (x : X) → slice_get xs i ≡ Some x → insert (take i xs) i x ≡ take (i + 1) xs
take_one xs i x h = take_suc xs i x h ∙ ap (λ n. take n xs) (sym (add-one i))

-- ---- edges that have the same numbers among other names
module _ (names others : List Name) where
  pub numbered-next : (edges : List Edge) (i : ℕ) (e : Edge) (name : Name) → slice_get edges i ≡ Some e → slice_get others (number_of e) ≡ Some name → slice_get names (number_of e) ≡ Some name → AreNumbered names others (take i edges) → AreNumbered names others (take (i + 1) edges)
  numbered-next edges i e name at there here so_far =
      let P : Edge → Type 0 = λ edge. (number_of edge < length others) × (named others edge ≡ named names edge) in
      let same : named others e ≡ named names e = named-is others e name (label_on e) (number_of e) there refl refl ∙ sym (named-is names e name (label_on e) (number_of e) here refl refl) in
      subst (AllByRecursion P) (take_one edges i e at) (each-insert P (take i edges) i e so_far (slice_get_within others (number_of e) name there, same))

  pub numbered-edges : (edges : List Edge) → AreNumbered names others edges → edges_of others edges ≡ edges_of names edges
  numbered-edges [] h = refl
  numbered-edges (e ∷ es) h = (λ i. h.0.1 i ∷ numbered-edges es h.1 i)

  pub numbered-within : (edges : List Edge) → AreNumbered names others edges → AreWithin others edges
  numbered-within [] h = tt
  numbered-within (e ∷ es) h = (h.0.0, numbered-within es h.1)
