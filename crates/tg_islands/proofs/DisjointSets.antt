-- Positions that move from one set into another.
use Rattle.std.proofs.Common.{◌≡◌, ◌≢◌, ℕ, ◌<◌, ◌≤◌, ◌+◌, Bool, true, false, cond, List, [], ◌∷◌, ◌++◌, refl, sym, ap, subst, ◌∙◌, nat_eq, length, get_or, set, arith, true≢false, length-append, length-set, inl, inr, ◌⊎◌, ◌||◌}
use Rattle.std.specs.List.{list_any}
use Rattle.std.proofs.lemmas.Bool.{cases_lt, eqb-true, eq-eqb, ne_eqb}
use Rattle.std.proofs.lemmas.List.{get_or_append_left, get_or-set_same, get_or-set_other}
use Rattle.std.proofs.lemmas.List.Folds.{list_any-append}
use Rattle.std.proofs.lemmas.Option.{get_or_from_slice_get, slice_get_read}
use Rattle.std.proofs.Math.ListN.{get_or-eq_default}
use Rattle.std.proofs.Math.Seq.{get_or-append_seam}
use Rattle.tg_islands.specs.declared.disjoint_sets.DisjointSets.{DisjointSets}
use Rattle.tg_islands.specs.Positions.{IsOneOf}
use Rattle.tg_islands.specs.DisjointSets.{set_of, members_of, AreSets, AreApart, PutsInto, MovesSet, JoinsSets, StayTogether, AreInOne}
use Rattle.tg_islands.proofs.OneOf.{one_of-append, one_of-left, one_of-right, one_of-single, single-one_of}

-- whether two numbers are one
pub same_or_not : (a b : ℕ) → (a ≡ b) ⊎ (nat_eq a b ≡ false)
same_or_not a b = by (nat_eq a b) refl
  where
    by : (t : Bool) → nat_eq a b ≡ t → (a ≡ b) ⊎ (nat_eq a b ≡ false)
    by true e = inl (eqb-true a b e)
    by false e = inr e

-- what a read of a set's members gives
pub members-read : (members : List (List ℕ)) (a : ℕ) (read : List ℕ) → a < length members → read ≡ get_or members a read → read ≡ members_of members a
members-read members a read h e = sym (get_or_from_slice_get members a read [] (slice_get_read members (length members) a read refl h e))

-- ---- sets of one position each
module _ (d new : DisjointSets) (n : ℕ) (own : List ℕ) (apart : AreApart n d) (alone : own ≡ n ∷ []) (sets : new.sets.items ≡ d.sets.items ++ n ∷ []) (members : new.members.items ≡ d.members.items ++ own ∷ []) where
  one_more : (a : ℕ) → (a < n) ⊎ (n ≤ a) → a < n + 1 → (set_of new.sets.items a ≡ a) × (members_of new.members.items a ≡ a ∷ [])
  one_more a (inl l) h =
      let old = apart.alone a l in
      (ap (λ xs. get_or xs a 0) sets ∙ get_or_append_left d.sets.items (n ∷ []) 0 a (omega (arith, apart.len)) ∙ old.0, ap (λ xs. get_or xs a []) members ∙ get_or_append_left d.members.items (own ∷ []) [] a (omega (arith, apart.members)) ∙ old.1)
  one_more a (inr l) h =
      let is : a ≡ n = omega arith in
      (ap (λ xs. get_or xs a 0) sets ∙ ap (get_or' d.sets.items) (is ∙ sym apart.len) ∙ get_or-append_seam d.sets.items n [] 0 ∙ sym is, ap (λ xs. get_or xs a []) members ∙ ap (λ k. get_or (d.members.items ++ own ∷ []) k []) (is ∙ sym apart.members) ∙ get_or-append_seam d.members.items own [] [] ∙ alone ∙ ap (λ k. k ∷ []) (sym is))
    where
      get_or' : List ℕ → ℕ → ℕ
      get_or' xs k = get_or (xs ++ n ∷ []) k 0

  pub apart-more : AreApart (n + 1) new
  apart-more = record {
    len = ap length sets ∙ length-append d.sets.items (n ∷ []) ∙ ap (λ k. k + 1) apart.len;
    members = ap length members ∙ length-append d.members.items (own ∷ []) ∙ ap (λ k. k + 1) apart.members;
    alone = λ a h. one_more a (cases_lt a n) h;
  }

pub apart-sets : (n : ℕ) (d : DisjointSets) → AreApart n d → AreSets d
apart-sets n d apart = record {
  len = apart.members ∙ sym apart.len;
  known = λ a h. subst (λ k. k < length d.sets.items) (sym (apart.alone a (within a h)).0) h;
  member = λ a h. let own = apart.alone a (within a h) in subst (IsOneOf a) (sym (ap (members_of d.members.items) own.0 ∙ own.1)) (single-one_of a);
  only = λ s a h. only s a h (cases_lt s n);
}
  where
    within : (a : ℕ) → a < length d.sets.items → a < n
    within a h = omega (arith, apart.len)

    only : (s a : ℕ) → IsOneOf a (members_of d.members.items s) → (s < n) ⊎ (n ≤ s) → (a < length d.sets.items) × (set_of d.sets.items a ≡ s)
    only s a h (inl l) =
        let own = apart.alone s l in
        let is : a ≡ s = one_of-single a s (subst (IsOneOf a) own.1 h) in
        ((omega (arith, apart.len)), ap (set_of d.sets.items) is ∙ own.0)
    only s a h (inr l) = absurd (true≢false (sym h ∙ ap (list_any (nat_eq a)) (get_or-eq_default d.members.items [] (omega (arith, apart.members)))))

-- ---- positions are put into a set, one after another
pub puts-none : (set : ℕ) (xs : List ℕ) → PutsInto [] set xs xs
puts-none set xs = record { len = refl; there = λ a h. refl }

module _ (ps : List ℕ) (p to : ℕ) (old mid new : List ℕ) (m : PutsInto ps to old mid) (within : p < length mid) (is : new ≡ set mid p to) where
  pub puts-more : PutsInto (ps ++ p ∷ []) to old new
  puts-more = record { len = ap length is ∙ length-set mid p to ∙ m.len; there = λ a h. by a h (same_or_not a p) }
    where
      or_false : (t : Bool) → (t || (false || false)) ≡ t
      or_false true = refl
      or_false false = refl

      any : (a : ℕ) (x y : Bool) → list_any (nat_eq a) ps ≡ x → nat_eq a p ≡ y → list_any (nat_eq a) (ps ++ p ∷ []) ≡ (x || (y || false))
      any a x y e f = list_any-append (nat_eq a) ps (p ∷ []) ∙ ap (λ t. t || list_any (nat_eq a) (p ∷ [])) e ∙ ap (λ t. x || (t || false)) f

      put : (a : ℕ) → list_any (nat_eq a) (ps ++ p ∷ []) ≡ true → cond (list_any (nat_eq a) (ps ++ p ∷ [])) to (set_of old a) ≡ to
      put a e = ap (λ t. cond t to (set_of old a)) e

      by : (a : ℕ) → a < length old → (a ≡ p) ⊎ (nat_eq a p ≡ false) → set_of new a ≡ cond (list_any (nat_eq a) (ps ++ p ∷ [])) to (set_of old a)
      by a h (inl e) =
          ap (λ xs. get_or xs a 0) is
          ∙ ap (λ k. get_or (set mid p to) k 0) e
          ∙ get_or-set_same mid p to 0 within
          ∙ sym (put a (one_of-right a ps (p ∷ []) (subst (λ k. IsOneOf a (k ∷ [])) e (single-one_of a))))
      by a h (inr e) =
          ap (λ xs. get_or xs a 0) is
          ∙ get_or-set_other mid p a to 0 (λ q. true≢false (sym (eq-eqb a p q) ∙ e))
          ∙ m.there a h
          ∙ ap (λ t. cond t to (set_of old a)) (sym (any a (list_any (nat_eq a) ps) false refl e ∙ or_false (list_any (nat_eq a) ps)))

-- ---- a set moves into another
module _ (old : DisjointSets) (new : List ℕ) (from to : ℕ) (s : AreSets old) (puts : PutsInto (members_of old.members.items from) to old.sets.items new) where
  moved : (a : ℕ) → a < length old.sets.items → (t : Bool) → list_any (nat_eq a) (members_of old.members.items from) ≡ t → cond t to (set_of old.sets.items a) ≡ cond (nat_eq (set_of old.sets.items a) from) to (set_of old.sets.items a)
  moved a h true e = ap (λ k. cond k to (set_of old.sets.items a)) (sym (eq-eqb (set_of old.sets.items a) from (s.only from a e).1))
  moved a h false e = by (same_or_not (set_of old.sets.items a) from)
    where
      by : (set_of old.sets.items a ≡ from) ⊎ (nat_eq (set_of old.sets.items a) from ≡ false) → set_of old.sets.items a ≡ cond (nat_eq (set_of old.sets.items a) from) to (set_of old.sets.items a)
      by (inl q) = absurd (true≢false (sym (subst (λ k. IsOneOf a (members_of old.members.items k)) q (s.member a h)) ∙ e))
      by (inr q) = ap (λ k. cond k to (set_of old.sets.items a)) (sym q)

  pub set-moves : MovesSet from to old.sets.items new
  set-moves = record {
    len = puts.len;
    there = λ a h. puts.there a h ∙ moved a h (list_any (nat_eq a) (members_of old.members.items from)) refl;
  }

module _ (old new : DisjointSets) (from to : ℕ) (s : AreSets old) (f : from < length old.sets.items) (t : to < length old.sets.items) (other : from ≢ to) (puts : PutsInto (members_of old.members.items from) to old.sets.items new.sets.items) (members : new.members.items ≡ set (set old.members.items from []) to (members_of (set old.members.items from []) to ++ members_of old.members.items from)) where
  moves : MovesSet from to old.sets.items new.sets.items
  moves = set-moves old new.sets.items from to s puts

  -- what is where
  goes : (a : ℕ) → a < length old.sets.items → (set_of old.sets.items a ≡ from) → set_of new.sets.items a ≡ to
  goes a h e = moves.there a h ∙ ap (λ k. cond k to (set_of old.sets.items a)) (eq-eqb (set_of old.sets.items a) from e)

  stays : (a : ℕ) → a < length old.sets.items → nat_eq (set_of old.sets.items a) from ≡ false → set_of new.sets.items a ≡ set_of old.sets.items a
  stays a h e = moves.there a h ∙ ap (λ k. cond k to (set_of old.sets.items a)) e

  abbrev emptied : List (List ℕ)
  emptied = set old.members.items from []

  emptied_len : length emptied ≡ length old.sets.items
  emptied_len = length-set old.members.items from [] ∙ s.len

  new_at : (k : ℕ) → members_of new.members.items k ≡ get_or (set emptied to (members_of emptied to ++ members_of old.members.items from)) k []
  new_at k = ap (λ xs. get_or xs k []) members

  to_members : members_of new.members.items to ≡ members_of old.members.items to ++ members_of old.members.items from
  to_members =
      new_at to
      ∙ get_or-set_same emptied to (members_of emptied to ++ members_of old.members.items from) [] (omega (arith, emptied_len))
      ∙ ap (λ xs. xs ++ members_of old.members.items from) (get_or-set_other old.members.items from to [] [] (λ e. other (sym e)))

  from_members : members_of new.members.items from ≡ []
  from_members =
      new_at from
      ∙ get_or-set_other emptied to from (members_of emptied to ++ members_of old.members.items from) [] other
      ∙ get_or-set_same old.members.items from [] [] (omega (arith, s.len))

  other_members : (k : ℕ) → k ≢ from → k ≢ to → members_of new.members.items k ≡ members_of old.members.items k
  other_members k f t =
      new_at k
      ∙ get_or-set_other emptied to k (members_of emptied to ++ members_of old.members.items from) [] t
      ∙ get_or-set_other old.members.items from k [] [] f

  differs : (a b : ℕ) → nat_eq a b ≡ false → a ≢ b
  differs a b e q = true≢false (sym (eq-eqb a b q) ∙ e)

  member : (a : ℕ) → a < length old.sets.items → (set_of old.sets.items a ≡ from) ⊎ (nat_eq (set_of old.sets.items a) from ≡ false) → IsOneOf a (members_of new.members.items (set_of new.sets.items a))
  member a h (inl e) =
      subst (IsOneOf a) (sym (ap (members_of new.members.items) (goes a h e) ∙ to_members)) (one_of-right a (members_of old.members.items to) (members_of old.members.items from) (subst (λ k. IsOneOf a (members_of old.members.items k)) e (s.member a h)))
  member a h (inr e) = by (same_or_not (set_of old.sets.items a) to)
    where
      there : IsOneOf a (members_of old.members.items (set_of old.sets.items a))
      there = s.member a h

      by : (set_of old.sets.items a ≡ to) ⊎ (nat_eq (set_of old.sets.items a) to ≡ false) → IsOneOf a (members_of new.members.items (set_of new.sets.items a))
      by (inl q) =
          subst (IsOneOf a) (sym (ap (members_of new.members.items) (stays a h e ∙ q) ∙ to_members)) (one_of-left a (members_of old.members.items to) (members_of old.members.items from) (subst (λ k. IsOneOf a (members_of old.members.items k)) q there))
      by (inr q) =
          subst (IsOneOf a) (sym (ap (members_of new.members.items) (stays a h e) ∙ other_members (set_of old.sets.items a) (differs (set_of old.sets.items a) from e) (differs (set_of old.sets.items a) to q))) there

  abbrev IsThere : ℕ → ℕ → Type 0
  IsThere k a = (a < length new.sets.items) × (set_of new.sets.items a ≡ k)

  within : (a : ℕ) → a < length old.sets.items → a < length new.sets.items
  within a h = subst (λ n. a < n) (sym puts.len) h

  only_to : (a : ℕ) → IsOneOf a (members_of old.members.items to) ⊎ IsOneOf a (members_of old.members.items from) → IsThere to a
  only_to a (inl h) =
      let o = s.only to a h in
      (within a o.0, stays a o.0 (ne_eqb (set_of old.sets.items a) from (λ q. other (sym q ∙ o.1))) ∙ o.1)
  only_to a (inr h) = let o = s.only from a h in (within a o.0, goes a o.0 o.1)

  only : (k a : ℕ) → IsOneOf a (members_of new.members.items k) → (k ≡ from) ⊎ (nat_eq k from ≡ false) → (k ≡ to) ⊎ (nat_eq k to ≡ false) → IsThere k a
  only k a h (inl e) q = absurd (true≢false (sym h ∙ ap (list_any (nat_eq a)) (ap (members_of new.members.items) e ∙ from_members)))
  only k a h (inr e) (inl q) =
      subst (λ n. IsThere n a) (sym q) (only_to a (one_of-append a (members_of old.members.items to) (members_of old.members.items from) (subst (IsOneOf a) (ap (members_of new.members.items) q ∙ to_members) h)))
  only k a h (inr e) (inr q) =
      let o = s.only k a (subst (IsOneOf a) (other_members k (differs k from e) (differs k to q)) h) in
      (within a o.0, stays a o.0 (ap (λ n. nat_eq n from) o.1 ∙ e) ∙ o.1)

  known : (a : ℕ) → a < length old.sets.items → (set_of old.sets.items a ≡ from) ⊎ (nat_eq (set_of old.sets.items a) from ≡ false) → set_of new.sets.items a < length old.sets.items
  known a h (inl e) = subst (λ k. k < length old.sets.items) (sym (goes a h e)) t
  known a h (inr e) = subst (λ k. k < length old.sets.items) (sym (stays a h e)) (s.known a h)

  pub sets-moved : AreSets new
  sets-moved = record {
    len = ap length members ∙ length-set emptied to (members_of emptied to ++ members_of old.members.items from) ∙ emptied_len ∙ sym puts.len;
    known = λ a h. let i : a < length old.sets.items = subst (λ n. a < n) puts.len h in subst (λ n. set_of new.sets.items a < n) (sym puts.len) (known a i (same_or_not (set_of old.sets.items a) from));
    member = λ a h. member a (subst (λ n. a < n) puts.len h) (same_or_not (set_of old.sets.items a) from);
    only = λ k a h. only k a h (same_or_not k from) (same_or_not k to);
  }

-- ---- two positions that are in one set already
pub one-set : (a b : ℕ) (d : DisjointSets) → AreSets d → set_of d.sets.items a ≡ set_of d.sets.items b → JoinsSets a b d d
one-set a b d s e = record { sets = s; joined = inl (record { len = refl; there = λ c h. by c (same_or_not (set_of d.sets.items c) (set_of d.sets.items a)) }) }
  where
    by : (c : ℕ) → (set_of d.sets.items c ≡ set_of d.sets.items a) ⊎ (nat_eq (set_of d.sets.items c) (set_of d.sets.items a) ≡ false) → set_of d.sets.items c ≡ cond (nat_eq (set_of d.sets.items c) (set_of d.sets.items a)) (set_of d.sets.items b) (set_of d.sets.items c)
    by c (inl q) = q ∙ e ∙ ap (λ t. cond t (set_of d.sets.items b) (set_of d.sets.items c)) (sym (eq-eqb (set_of d.sets.items c) (set_of d.sets.items a) q))
    by c (inr q) = ap (λ t. cond t (set_of d.sets.items b) (set_of d.sets.items c)) (sym q)

-- ---- what a move says of two positions
module _ (from to : ℕ) (old new : List ℕ) (m : MovesSet from to old new) where
  same-kept : (a b : ℕ) → a < length old → b < length old → set_of old a ≡ set_of old b → set_of new a ≡ set_of new b
  same-kept a b h k e = m.there a h ∙ ap (λ s. cond (nat_eq s from) to s) e ∙ sym (m.there b k)

  gone : (a : ℕ) → a < length old → set_of old a ≡ from → set_of new a ≡ to
  gone a h e = m.there a h ∙ ap (λ t. cond t to (set_of old a)) (eq-eqb (set_of old a) from e)

  stayed : (a : ℕ) → a < length old → nat_eq (set_of old a) from ≡ false → set_of new a ≡ set_of old a
  stayed a h e = m.there a h ∙ ap (λ t. cond t to (set_of old a)) e

  is_to : (a : ℕ) → a < length old → set_of old a ≡ to → set_of new a ≡ to
  is_to a h e = by (same_or_not (set_of old a) from)
    where
      by : (set_of old a ≡ from) ⊎ (nat_eq (set_of old a) from ≡ false) → set_of new a ≡ to
      by (inl q) = gone a h q
      by (inr q) = stayed a h q ∙ e

  pub ends-meet : (a b : ℕ) → a < length old → b < length old → set_of old a ≡ from → set_of old b ≡ to → set_of new a ≡ set_of new b
  ends-meet a b h k e f = gone a h e ∙ sym (is_to b k f)

  abbrev Were : ℕ → ℕ → Type 0
  Were a b = (set_of old a ≡ set_of old b) ⊎ (((set_of old a ≡ from) × (set_of old b ≡ to)) ⊎ ((set_of old a ≡ to) × (set_of old b ≡ from)))

  pub were : (a b : ℕ) → a < length old → b < length old → set_of new a ≡ set_of new b → Were a b
  were a b h k e = by (same_or_not (set_of old a) from) (same_or_not (set_of old b) from)
    where
      by : (set_of old a ≡ from) ⊎ (nat_eq (set_of old a) from ≡ false) → (set_of old b ≡ from) ⊎ (nat_eq (set_of old b) from ≡ false) → Were a b
      by (inl p) (inl q) = inl (p ∙ sym q)
      by (inl p) (inr q) = inr (inl (p, sym (stayed b k q) ∙ sym e ∙ gone a h p))
      by (inr p) (inl q) = inr (inr (sym (stayed a h p) ∙ e ∙ gone b k q, q))
      by (inr p) (inr q) = inl (sym (stayed a h p) ∙ e ∙ stayed b k q)

pub together-moved : (from to : ℕ) (old new : List ℕ) → MovesSet from to old new → StayTogether old new
together-moved from to old new m = record { len = m.len; together = same-kept from to old new m }

pub together-joined : (a b : ℕ) (old new : DisjointSets) → JoinsSets a b old new → StayTogether old.sets.items new.sets.items
together-joined a b old new j = by j.joined
  where
    by : MovesSet (set_of old.sets.items a) (set_of old.sets.items b) old.sets.items new.sets.items ⊎ MovesSet (set_of old.sets.items b) (set_of old.sets.items a) old.sets.items new.sets.items → StayTogether old.sets.items new.sets.items
    by (inl m) = together-moved (set_of old.sets.items a) (set_of old.sets.items b) old.sets.items new.sets.items m
    by (inr m) = together-moved (set_of old.sets.items b) (set_of old.sets.items a) old.sets.items new.sets.items m

pub together-same : (xs : List ℕ) → StayTogether xs xs
together-same xs = record { len = refl; together = λ a b h k e. e }

pub together-on : (xs ys zs : List ℕ) → StayTogether xs ys → StayTogether ys zs → StayTogether xs zs
together-on xs ys zs s t = record {
  len = t.len ∙ s.len;
  together = λ a b h k e. t.together a b (subst (λ n. a < n) (sym s.len) h) (subst (λ n. b < n) (sym s.len) k) (s.together a b h k e);
}

-- ---- the first positions that are in one set
pub in_one-kept : (old new : List ℕ) (n : ℕ) → StayTogether old new → AreInOne old n → AreInOne new n
in_one-kept old new n s o = record {
  within = subst (λ k. n ≤ k) (sym s.len) o.within;
  one = λ a h. let w = o.within in s.together a 0 (omega arith) (omega arith) (o.one a h);
}

pub in_one-more : (xs : List ℕ) (n : ℕ) → AreInOne xs n → n < length xs → set_of xs n ≡ set_of xs 0 → AreInOne xs (n + 1)
in_one-more xs n o h e = record { within = omega arith; one = λ a l. by a l (cases_lt a n) }
  where
    by : (a : ℕ) → a < n + 1 → (a < n) ⊎ (n ≤ a) → set_of xs a ≡ set_of xs 0
    by a l (inl k) = o.one a k
    by a l (inr k) = let is : a ≡ n = omega arith in ap (set_of xs) is ∙ e
