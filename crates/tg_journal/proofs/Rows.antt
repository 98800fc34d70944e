-- Lists of notes, of which one is replaced.
use Rattle.std.proofs.Common.{zero-add, ◌≡◌, ◌↔◌, ℕ, ◌+◌, ◌<◌, ◌≤◌, List, [], ◌∷◌, ◌++◌, length, map, take, set, get_or, refl, sym, ◌∙◌, ap, subst, zero, suc, arith, add-one}
use Rattle.std.proofs.lemmas.Option.{slice_get_within, get_or_from_slice_get, slice_get-get_or, slice_get-map, none-some}
use Rattle.std.specs.List.{slice_get, count_by}
use Rattle.std.specs.Prelude.{◌==◌, nat_lt}
use Rattle.std.specs.Option.{MatchOption, IfSome, IsSome, option_map}
use Rattle.std.proofs.lemmas.List.{get_or-take, take_more, map-set, take-set, take_more_set, length-map, length-set, length-take-le, map-append, length-append, length-take, take-take, get_or_push, get_or-set_same}
use Rattle.std.specs.declared.option.Option.{Option}
use Rattle.std.specs.declared.option.Option.TheVariants.{None, Some}
use Rattle.std.specs.List.{Contains}
use Rattle.std.specs.List.Sorted.{IsStrictlyIncreasing}
use Rattle.tg_journal.specs.Limits.{most_cells}
use Rattle.tg_journal.specs.Lists.{Begins}
use Rattle.tg_journal.specs.Known.{values, AllKnown}
use Rattle.tg_journal.specs.Pass.{own_places, IsPass, pass_of, PassState, Remembers}
use Rattle.tg_journal.proofs.OwnPlaces.{HasOwn, own_places_same, own_places_more, own_places_le, own_places_rising, own_places_own, own_places_counted}

module _ {X Y : Type 0} (f : X → Y) where
  pub map_same : (xs : List X) (i : ℕ) (x y : X) → x ≡ get_or xs i x → f y ≡ f x → map f (set xs i y) ≡ map f xs
  map_same [] i x y e h = refl
  map_same (z ∷ zs) zero x y e h = ap (λ v. v ∷ map f zs) (h ∙ ap f e)
  map_same (z ∷ zs) (suc i) x y e h = ap (λ v. f z ∷ v) (map_same zs i x y e h)

  pub map_read : (xs : List X) (i : ℕ) (x : X) (d : Y) → i < length xs → x ≡ get_or xs i x → get_or (map f xs) i d ≡ f x
  map_read [] i x d h e = absurd (omega arith)
  map_read (z ∷ zs) zero x d h e = ap f (sym e)
  map_read (z ∷ zs) (suc i) x d h e = map_read zs i x d (omega arith) e

pub maps_length : {X Y Z : Type 0} (f : X → Z) (g : Y → Z) (xs : List X) (ys : List Y) → map f xs ≡ map g ys → length xs ≡ length ys
maps_length f g xs ys e = sym (length-map xs f) ∙ ap length e ∙ length-map ys g

-- a name that stands at i in the row of names is that of what stands at i
pub name_there : {X : Type 0} (f : X → ℕ) (xs : List X) (names : List ℕ) (i j n : ℕ) (x : X) → map f xs ≡ names → i ≡ j → slice_get names j ≡ Some n → x ≡ get_or xs i x → n ≡ f x
name_there f xs names i j n x e k h a =
    let there : slice_get names i ≡ Some n = ap (slice_get names) k ∙ h in
    let within : i < length names = slice_get_within names i n there in
    let size : length xs ≡ length names = sym (length-map xs f) ∙ ap length e in
    sym (get_or_from_slice_get names i n n there) ∙ ap (λ l. get_or l i n) (sym e) ∙ map_read f xs i x n (omega arith) a

pub take_more_get : {X : Type 0} (xs : List X) (i : ℕ) (x : X) → slice_get xs i ≡ Some x → take (i + 1) xs ≡ take i xs ++ x ∷ []
take_more_get xs i x h =
    take_more xs i x (slice_get_within xs i x h) ∙ ap (λ y. take i xs ++ y ∷ []) (get_or_from_slice_get xs i x x h)

take_more_get_some : {X : Type 0} (xs : List X) (i : ℕ) → i < length xs → map Some (take (suc i) xs) ≡ map Some (take i xs) ++ slice_get xs i ∷ []
take_more_get_some [] i h = absurd (omega arith)
take_more_get_some (x ∷ xs) zero h = refl
take_more_get_some (x ∷ xs) (suc i) h = ap (λ l. Some x ∷ l) (take_more_get_some xs i (omega arith))

pub take_more_some : {X : Type 0} (xs : List X) (i : ℕ) → i < length xs → map Some (take (i + 1) xs) ≡ map Some (take i xs) ++ slice_get xs i ∷ []
take_more_some xs i h = rw add-one (take_more_get_some xs i h)

pub values-Some : {X : Type 0} (xs : List X) → values (map Some xs) ≡ xs
values-Some [] = refl
values-Some (x ∷ xs) = ap (λ l. x ∷ l) (values-Some xs)

pub AllKnown-of : {X : Type 0} (ks : List (Option X)) (xs : List X) → ks ≡ map Some xs → AllKnown ks
AllKnown-of ks xs e = ap (λ l. map Some (values l)) e ∙ ap (map Some) (values-Some xs) ∙ sym e

pub map_push : {X Y : Type 0} (f : X → Y) (xs : List X) (x : X) (ys : List Y) (y : Y) → map f xs ≡ ys → f x ≡ y → map f (xs ++ x ∷ []) ≡ ys ++ y ∷ []
map_push f xs x ys y e h = map-append f xs (x ∷ []) ∙ ap (λ l. l ++ f x ∷ []) e ∙ ap (λ v. ys ++ v ∷ []) h

-- two rows that agree under f and g agree at each place
pub maps_read : {X Y Z : Type 0} (f : X → Z) (g : Y → Z) (xs : List X) (ys : List Y) (i : ℕ) (x : X) (y : Y) → map f xs ≡ map g ys → i < length ys → x ≡ get_or xs i x → y ≡ get_or ys i y → f x ≡ g y
maps_read f g xs ys i x y e h a b =
    let l : length xs ≡ length ys = maps_length f g xs ys e in
    sym (map_read f xs i x (g y) (omega arith) a) ∙ ap (λ zs. get_or zs i (g y)) e ∙ map_read g ys i y (g y) h b

module _ {R : Type 0} where
  pub values-push : (ks : List (Option R)) (r : R) → values (ks ++ Some r ∷ []) ≡ values ks ++ r ∷ []
  values-push [] r = refl
  values-push (None ∷ ks) r = values-push ks r
  values-push (Some x ∷ ks) r = ap (λ v. x ∷ v) (values-push ks r)

  pub AllKnown-push : (ks : List (Option R)) (r : R) → AllKnown ks → AllKnown (ks ++ Some r ∷ [])
  AllKnown-push ks r h = rw (values-push ks r) (map-append Some (values ks) (r ∷ []) ∙ ap (λ v. v ++ Some r ∷ []) h)

  pub length-values : (ks : List (Option R)) → AllKnown ks → length (values ks) ≡ length ks
  length-values ks h = sym (length-map (values ks) Some) ∙ ap length h

  pub get_or-Some : (xs : List R) (i : ℕ) → get_or (map Some xs) i None ≡ slice_get xs i
  get_or-Some [] i = refl
  get_or-Some (x ∷ xs) zero = refl
  get_or-Some (x ∷ xs) (suc i) = get_or-Some xs i

  pub not_past : (xs : List R) (i : ℕ) → i < length xs → slice_get xs i ≡ None → ⊥
  not_past [] i h = absurd (omega arith)
  not_past (x ∷ xs) zero h = λ e. cc
  not_past (x ∷ xs) (suc i) h = not_past xs i (omega arith)

  -- a look by a note that knows a value finds it
  pub look_finds : {B : Type 0} (now : B → R) (o : Option B) (k j : Option R) → (k ≡ None → ⊥) → MatchOption o ((k ≡ None) × (j ≡ None)) (λ r. (j ≡ Some (now r)) × IfSome k (λ y. y ≡ now r)) → option_map now o ≡ k
  look_finds now None k j n m = absurd (n m.0)
  look_finds now (Some r) None j n m = absurd (n refl)
  look_finds now (Some r) (Some y) j n m = ap Some (sym m.1)

  pub told_there : (j k s : Option R) → (k ≡ None → ⊥) → k ≡ s → IfSome j (λ x. IfSome k (λ y. y ≡ x)) → IfSome j (λ x. s ≡ Some x)
  told_there None k s n e h = tt
  told_there (Some x) None s n e h = absurd (n refl)
  told_there (Some x) (Some y) s n e h = sym e ∙ ap Some h

  module _ {X : Type 0} (known : X → Option R) where
    pub first_same : (ns : List X) (c : ℕ) (y : X) → take c (map known (set ns c y)) ≡ take c (map known ns)
    first_same ns c y = rw (map-set known ns c y) (take-set (map known ns) c (known y))

    pub first_more : (ns : List X) (c : ℕ) (y : X) (r : R) → c < length ns → known y ≡ Some r → take (c + 1) (map known (set ns c y)) ≡ take c (map known ns) ++ Some r ∷ []
    first_more ns c y r h e =
        let l : length (map known ns) ≡ length ns = length-map ns known in
        rw (map-set known ns c y) (take_more_set (map known ns) c (known y) (omega arith) ∙ ap (λ v. take c (map known ns) ++ v ∷ []) e)

    pub count_is : (ns : List X) (c : ℕ) → c ≤ length ns → AllKnown (take c (map known ns)) → length (values (take c (map known ns))) ≡ c
    count_is ns c h a =
        let l : length (map known ns) ≡ length ns = length-map ns known in
        length-values (take c (map known ns)) a ∙ length-take-le c (map known ns) (omega arith)

    pub all_read : (ns : List X) (i : ℕ) (x : X) → i < length ns → AllKnown (map known ns) → x ≡ get_or ns i x → known x ≡ slice_get (values (map known ns)) i
    all_read ns i x l h e =
        let ks = map known ns in
        sym (map_read known ns i x None l e) ∙ ap (λ s. get_or s i None) (sym h) ∙ get_or-Some (values ks) i

    pub all_length : (ns : List X) → AllKnown (map known ns) → length (values (map known ns)) ≡ length ns
    all_length ns h = length-values (map known ns) h ∙ length-map ns known

    -- the invariant of a pass that has seen c cells
    abbrev pub Holds : List X → ℕ → Type 0
    Holds ns c = (c ≤ length ns) × AllKnown (take c (map known ns))

    pub holds_same : (ns : List X) (c : ℕ) (y : X) → Holds ns c → Holds (set ns c y) c
    holds_same ns c y h = (rw (length-set ns c y) h.0, rw (first_same ns c y) h.1)

    pub holds_more : (ns : List X) (c : ℕ) (y : X) (r : R) → c < length ns → known y ≡ Some r → Holds ns c → Holds (set ns c y) (c + 1)
    holds_more ns c y r l e h =
        (rw (length-set ns c y) (omega arith), rw (first_more ns c y r l e) (AllKnown-push (take c (map known ns)) r h.1))

    pub seen_more : (ns : List X) (c : ℕ) (y : X) (r : R) → c < length ns → known y ≡ Some r → values (take (c + 1) (map known (set ns c y))) ≡ values (take c (map known ns)) ++ r ∷ []
    seen_more ns c y r l e = rw (first_more ns c y r l e) (values-push (take c (map known ns)) r)

    pub known_there : (ns : List X) (c : ℕ) (y : X) (r : R) → c < length ns → known y ≡ Some r → slice_get (map known (set ns c y)) c ≡ Some (Some r)
    known_there ns c y r l e =
        let size : length (map known (set ns c y)) ≡ length ns = length-map (set ns c y) known ∙ length-set ns c y in
        slice_get-get_or (map known (set ns c y)) c None (omega arith) ∙ ap Some (map_read known (set ns c y) c y None (rw (length-set ns c y) l) (sym (get_or-set_same ns c y y l)) ∙ e)

    -- of a cell whose note knows nothing no record is known
    pub knows_none : (ns : List X) (i : ℕ) (x : X) (r : R) → x ≡ get_or ns i x → i < length ns → known x ≡ None → slice_get (map known ns) i ≡ Some (Some r) → ⊥
    knows_none ns i x r e l n k =
        none-some r (sym n ∙ sym (map_read known ns i x None l e) ∙ get_or_from_slice_get (map known ns) i (Some r) None k)

    -- what is known of a cell whose note was replaced
    pub known_now : (ns : List X) (c j : ℕ) (y : X) (k : Option R) → c < length ns → c ≡ j → known y ≡ k → slice_get (map known (set ns c y)) j ≡ Some k
    known_now ns c j y k l h e =
        let size : length (map known (set ns c y)) ≡ length ns = length-map (set ns c y) known ∙ length-set ns c y in
        ap (slice_get (map known (set ns c y))) (sym h) ∙ slice_get-get_or (map known (set ns c y)) c None (omega arith) ∙ ap Some (map_read known (set ns c y) c y None (rw (length-set ns c y) l) (sym (get_or-set_same ns c y y l)) ∙ e)

    -- what the note of a seen place knows
    pub seen_read : (ns : List X) (c i : ℕ) (x : X) → i < c → Holds ns c → x ≡ get_or ns i x → known x ≡ slice_get (values (take c (map known ns))) i
    seen_read ns c i x l h e =
        let ks = take c (map known ns) in
        sym (map_read known ns i x None (omega arith) e) ∙ sym (get_or-take c (map known ns) i None l) ∙ ap (λ s. get_or s i None) (sym h.1) ∙ get_or-Some (values ks) i

    pub seen_known : (ns : List X) (c i : ℕ) (x : X) → i < c → Holds ns c → x ≡ get_or ns i x → known x ≡ None → ⊥
    seen_known ns c i x l h e n =
        let size : length (values (take c (map known ns))) ≡ c = count_is ns c h.0 h.1 in
        not_past (values (take c (map known ns))) i (omega arith) (sym (seen_read ns c i x l h e) ∙ n)

    module _ (cell : X → ℕ) where
      pub view_same : (n c i : ℕ) (ns : List X) (x y : X) → x ≡ get_or ns i x → cell y ≡ cell x → known y ≡ known x → (ms : List ℕ) → pass_of n c (map cell (set ns i y)) (map known (set ns i y)) ms ≡ pass_of n c (map cell ns) (map known ns) ms
      view_same n c i ns x y e a b ms = rw (map_same cell ns i x y e a, map_same known ns i x y e b) refl

module _ {R : Type 0} where
  -- one more place that two lists share, as what the second has there is also in the first
  pub shared_more : (a b : List R) (i : ℕ) (k : Option R) → k ≡ slice_get b i → i < length b → take i a ≡ take i b → IfSome k (λ x. slice_get a i ≡ Some x) → take (i + 1) a ≡ take (i + 1) b
  shared_more a b i None k l e h = absurd (not_past b i l (sym k))
  shared_more a b i (Some x) k l e h =
      take_more_get a i x h ∙ ap (λ s. s ++ x ∷ []) e ∙ sym (take_more_get b i x (sym k))

  pub shared_within : (a b : List R) (i : ℕ) (k : Option R) → k ≡ slice_get b i → i < length b → IfSome k (λ x. slice_get a i ≡ Some x) → i < length a
  shared_within a b i None k l h = absurd (not_past b i l (sym k))
  shared_within a b i (Some x) k l h = slice_get_within a i x h

  pub Begins_take : (ys zs : List R) (i : ℕ) → i ≤ length ys → Begins ys zs → take i zs ≡ take i ys
  Begins_take ys zs i l e = sym (take-take i (length ys) zs l) ∙ ap (take i) e

  pub Begins_le : (xs ys : List R) → Begins xs ys → length xs ≤ length ys
  Begins_le xs ys e = omega (arith, length-take (length xs) ys, ap length e)

  pub Begins_trans : (xs ys zs : List R) → Begins xs ys → Begins ys zs → Begins xs zs
  Begins_trans xs ys zs d e = Begins_take ys zs (length xs) (Begins_le xs ys d) e ∙ d

  pub some_there : (b : List R) (i : ℕ) (k : Option R) → i < length b → k ≡ slice_get b i → IsSome k
  some_there b i None l h = absurd (not_past b i l (sym h))
  some_there b i (Some x) l h = refl

pub from_take : {X : Type 0} (xs : List X) (n i : ℕ) (x : X) → slice_get (take n xs) i ≡ Some x → slice_get xs i ≡ Some x
from_take [] zero i x h = h
from_take [] (suc n) i x h = h
from_take (y ∷ ys) zero i x h = cc
from_take (y ∷ ys) (suc n) zero x h = h
from_take (y ∷ ys) (suc n) (suc i) x h = from_take ys n i x h

module _ {R X : Type 0} (seat : R → ℕ) (known : X → Option R) where
  -- the whole invariant of a pass of number k that has seen c cells, put at the places ms, and has room for cap places
  abbrev pub Keeps : List X → ℕ → ℕ → List ℕ → ℕ → Type 0
  Keeps ns c k ms cap = Holds known ns c × ((ms ≡ own_places seat k 0 (values (take c (map known ns)))) × (length ns ≤ cap) × (length ns ≤ most_cells))

  pub keeps_same : (ns : List X) (c k : ℕ) (ms : List ℕ) (cap : ℕ) (y : X) → Keeps ns c k ms cap → Keeps (set ns c y) c k ms cap
  keeps_same ns c k ms cap y h =
      (holds_same known ns c y h.0, (h.1.0 ∙ ap (λ l. own_places seat k 0 (values l)) (sym (first_same known ns c y)), rw (length-set ns c y) h.1.1, rw (length-set ns c y) h.1.2))

  pub keeps_other : (ns : List X) (c k : ℕ) (ms : List ℕ) (cap : ℕ) (y : X) (r : R) → c < length ns → known y ≡ Some r → (seat r ≡ k → ⊥) → Keeps ns c k ms cap → Keeps (set ns c y) (c + 1) k ms cap
  keeps_other ns c k ms cap y r l e n h = (
    holds_more known ns c y r l e h.0,
    (h.1.0 ∙ sym (own_places_same seat k 0 (values (take c (map known ns))) r n) ∙ ap (own_places seat k 0) (sym (seen_more known ns c y r l e)), rw (length-set ns c y) h.1.1, rw (length-set ns c y) h.1.2),
  )

  pub keeps_mine : (ns : List X) (c k : ℕ) (ms ms' : List ℕ) (cap cap' : ℕ) (y : X) (r : R) → c < length ns → known y ≡ Some r → seat r ≡ k → ms' ≡ ms ++ c ∷ [] → cap' ≡ cap → Keeps ns c k ms cap → Keeps (set ns c y) (c + 1) k ms' cap'
  keeps_mine ns c k ms ms' cap cap' y r l e n d f h =
      let at : 0 + length (values (take c (map known ns))) ≡ c = zero-add (length (values (take c (map known ns)))) ∙ count_is known ns c h.0.0 h.0.1 in
      let more = own_places_more seat k 0 (values (take c (map known ns))) r n in (
        holds_more known ns c y r l e h.0,
        (
          d ∙ ap (λ l. l ++ c ∷ []) h.1.0 ∙ ap (λ j. own_places seat k 0 (values (take c (map known ns))) ++ j ∷ []) (sym at) ∙ sym more ∙ ap (own_places seat k 0) (sym (seen_more known ns c y r l e)),
          rw (length-set ns c y) (rw f h.1.1),
          rw (length-set ns c y) h.1.2,
        ),
      )

  pub is_pass : (cell : X → ℕ) (ns : List X) (c k : ℕ) (ms : List ℕ) (cap : ℕ) → Keeps ns c k ms cap → IsPass seat (pass_of k c (map cell ns) (map known ns) ms)
  is_pass cell ns c k ms cap h =
      let seen = values (take c (map known ns)) in
      let size = count_is known ns c h.0.0 h.0.1 in record {
        sizes = length-map ns known ∙ sym (length-map ns cell);
        limit = omega (arith, length-map ns cell, h.1.2);
        within = omega (arith, length-map ns cell, h.0.0);
        known = λ place r e. from_take (map known ns) c place (Some r) (ap (λ l. slice_get l place) (sym h.0.1) ∙ slice_get-map Some seen place ∙ ap (option_map Some) e);
        fewer = omega (arith, ap length h.1.0, own_places_le seat k 0 seen);
        rising = subst IsStrictlyIncreasing (sym h.1.0) (own_places_rising seat k 0 seen);
        own = λ place. subst (λ l. Contains l place ↔ HasOwn seat k seen place) (sym h.1.0) (own_places_own seat k seen place);
        counted = λ n. subst (λ l. count_by (λ r. seat r == k) (take n seen) ≡ count_by (λ place. nat_lt place n) l) (sym h.1.0) (own_places_counted seat k n seen);
      }

  -- there is room for one more place
  pub has_room : (ns : List X) (c k : ℕ) (ms : List ℕ) (cap : ℕ) → c < length ns → Keeps ns c k ms cap → length ms < cap
  has_room ns c k ms cap l h =
      let seen = values (take c (map known ns)) in
      let size = count_is known ns c h.0.0 h.0.1 in
      let few = own_places_le seat k 0 seen in
      let same : length ms ≡ length (own_places seat k 0 seen) = ap length h.1.0 in
      omega (arith, h.1.1)

some_one : {R : Type 0} (a b : R) → Some a ≡ Some b → a ≡ b
some_one a b e = cc

module _ {R X : Type 0} (known : X → Option R) where
  -- a note that is replaced by one that knows as much
  pub remembers : (ns : List X) (i : ℕ) (x y : X) → x ≡ get_or ns i x → ((r : R) → known x ≡ Some r → known y ≡ Some r) → (place : ℕ) (r : R) → slice_get (map known ns) place ≡ Some (Some r) → slice_get (map known (set ns i y)) place ≡ Some (Some r)
  remembers [] i x y e h place r k = k
  remembers (z ∷ zs) zero x y e h zero r k = ap Some (h r (ap known e ∙ some_one _ _ k))
  remembers (z ∷ zs) zero x y e h (suc place) r k = k
  remembers (z ∷ zs) (suc i) x y e h zero r k = k
  remembers (z ∷ zs) (suc i) x y e h (suc place) r k = remembers zs i x y e h place r k

  -- what the other notes know stays
  pub others_stay : (ns : List X) (i : ℕ) (y : X) (place : ℕ) → (place ≡ i → ⊥) → slice_get (map known (set ns i y)) place ≡ slice_get (map known ns) place
  others_stay [] i y place n = refl
  others_stay (z ∷ zs) zero y zero n = absurd (n refl)
  others_stay (z ∷ zs) zero y (suc place) n = refl
  others_stay (z ∷ zs) (suc i) y zero n = refl
  others_stay (z ∷ zs) (suc i) y (suc place) n = others_stay zs i y place (λ e. n (ap suc e))

  -- a look that finds r by a note that knows it, or knew nothing
  pub agreed : (k j : Option R) (v : R) → j ≡ Some v → IfSome k (λ y. y ≡ v) → (r : R) → k ≡ Some r → j ≡ Some r
  agreed None j v e a r h = cc
  agreed (Some y) j v e a r h = e ∙ ap Some (sym a) ∙ h

module _ {R : Type 0} where
  -- what is known by two notes of a cell is the same
  pub agreed_some : (k j : Option R) → IsSome j → IfSome j (λ v. IfSome k (λ y. y ≡ v)) → (r : R) → k ≡ Some r → j ≡ Some r
  agreed_some k None h a r e = cc
  agreed_some None (Some v) h a r e = cc
  agreed_some (Some y) (Some v) h a r e = ap Some (sym a) ∙ e

  pub some_is : (k : Option R) → IsSome k → (r : R) × (k ≡ Some r)
  some_is None h = cc
  some_is (Some r) h = (r, refl)

  -- what a pass knew of a cell it still knows
  pub known_stays : (old new : PassState R) (i : ℕ) (k : Option R) → IsSome k → Remembers old new → slice_get old.known i ≡ Some k → slice_get new.known i ≡ Some k
  known_stays old new i None h r e = cc
  known_stays old new i (Some x) h r e = r i x e

  -- the record that was seen is the one that was known
  pub looked_at : (a b : List R) (ks : List (Option R)) (i : ℕ) (k : Option R) → length a ≡ i → slice_get ks i ≡ Some k → (r : R) → slice_get ks (length a) ≡ Some (Some r) → b ≡ a ++ r ∷ [] → IfSome k (λ x. slice_get b i ≡ Some x)
  looked_at a b ks i k n there r known e =
      let same : Some r ≡ k = some_one (Some r) k (sym known ∙ ap (slice_get ks) n ∙ there) in
      let P : Option R → Type 0 = λ o. IfSome o (λ x. slice_get b i ≡ Some x) in
      subst P same (ap (λ s. slice_get s i) e ∙ slice_get-get_or (a ++ r ∷ []) i r (omega (arith, length-append a (r ∷ []))) ∙ ap Some (get_or_push a r r i n))
