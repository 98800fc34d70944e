-- The steps of a flood.
use Rattle.std.proofs.Common.{◌≡◌, ℕ, ◌+◌, ◌<◌, ◌≤◌, true, List, [], ◌∷◌, ◌++◌, Option, Some, None, refl, sym, ap, subst, ◌∙◌, is_some, arith, true≢false, inl, inr, ◌⊎◌}
use Rattle.std.proofs.lemmas.Bool.{cases_lt}
use Rattle.tg_sharing.specs.declared.flooding.Flood.{Flood}
use Rattle.tg_rows.specs.Rows.{Entries}
use Rattle.tg_islands.specs.Linked.{linked_end}
use Rattle.tg_sharing.specs.Flooding.{number_at, Meets, MeetsEnd, MeetsEnds}
use Rattle.tg_islands.specs.Positions.{IsOneOf}
use Rattle.tg_islands.proofs.OneOf.{one_of-append, one_of-left, one_of-right, one_of-single, single-one_of}

-- a number that was given stays
abbrev pub Kept : Flood → Flood → Type 0
Kept s t = (a m : ℕ) → number_at s a ≡ Some m → number_at t a ≡ Some m

module _ (s t : Flood) (kept : Kept s t) (a : ℕ) where
  was_none : number_at t a ≡ None → number_at s a ≡ None
  was_none e = by (number_at s a) refl
    where
      by : (o : Option ℕ) → number_at s a ≡ o → number_at s a ≡ None
      by None p = p
      by (Some m) p = absurd (true≢false (sym (ap is_some (kept a m p)) ∙ ap is_some e))

  pub some_kept : is_some (number_at s a) ≡ true → is_some (number_at t a) ≡ true
  some_kept h = by (number_at s a) refl h
    where
      by : (o : Option ℕ) → number_at s a ≡ o → is_some o ≡ true → is_some (number_at t a) ≡ true
      by None p q = absurd (true≢false (sym q))
      by (Some m) p q = ap is_some (kept a m p)

-- ---- positions met in turn
pub meets-none : (s : Flood) → Meets [] s s
meets-none s = record {
  len = refl;
  current = refl;
  kept = λ a m e. e;
  numbered = λ a e. inl e;
  still_waits = λ a h. h;
  waits = λ a h. inl h;
  met = λ a h. absurd (true≢false (sym h));
  work = refl;
}

module _ (ps : List ℕ) (p : ℕ) (s t u : Flood) (m : Meets ps s t) (n : Meets (p ∷ []) t u) where
  now : (a : ℕ) → number_at u a ≡ Some t.current → number_at u a ≡ Some s.current
  now a e = e ∙ ap Some m.current

  abbrev Joins : ℕ → Type 0
  Joins a = (number_at u a ≡ None) ⊎ ((number_at u a ≡ Some s.current) × IsOneOf a (ps ++ p ∷ []) × IsOneOf a u.waiting.items)

  joins-later : (a : ℕ) → (number_at u a ≡ None) ⊎ ((number_at u a ≡ Some t.current) × IsOneOf a (p ∷ []) × IsOneOf a u.waiting.items) → Joins a
  joins-later a (inl e) = inl e
  joins-later a (inr h) = inr (now a h.0, one_of-right a ps (p ∷ []) h.1, h.2)

  joins : (a : ℕ) → (number_at t a ≡ None) ⊎ ((number_at t a ≡ Some s.current) × IsOneOf a ps × IsOneOf a t.waiting.items) → Joins a
  joins a (inl e) = joins-later a (n.numbered a e)
  joins a (inr h) = inr (n.kept a s.current h.0, one_of-left a ps (p ∷ []) h.1, n.still_waits a h.2)

  abbrev Awaits : ℕ → Type 0
  Awaits a = IsOneOf a s.waiting.items ⊎ ((number_at s a ≡ None) × (number_at u a ≡ Some s.current))

  awaits-earlier : (a : ℕ) → IsOneOf a s.waiting.items ⊎ ((number_at s a ≡ None) × (number_at t a ≡ Some s.current)) → Awaits a
  awaits-earlier a (inl h) = inl h
  awaits-earlier a (inr h) = inr (h.0, n.kept a s.current h.1)

  awaits : (a : ℕ) → IsOneOf a t.waiting.items ⊎ ((number_at t a ≡ None) × (number_at u a ≡ Some t.current)) → Awaits a
  awaits a (inl h) = awaits-earlier a (m.waits a h)
  awaits a (inr h) = inr (was_none s t m.kept a h.0, now a h.1)

  met_both : (a : ℕ) → IsOneOf a ps ⊎ IsOneOf a (p ∷ []) → is_some (number_at u a) ≡ true
  met_both a (inl h) = some_kept t u n.kept a (m.met a h)
  met_both a (inr h) = n.met a h

  pub meets-more : Meets (ps ++ p ∷ []) s u
  meets-more = record {
    len = n.len ∙ m.len;
    current = n.current ∙ m.current;
    kept = λ a k e. n.kept a k (m.kept a k e);
    numbered = λ a e. joins a (m.numbered a e);
    still_waits = λ a h. n.still_waits a (m.still_waits a h);
    waits = λ a h. awaits a (n.waits a h);
    met = λ a h. met_both a (one_of-append a ps (p ∷ []) h);
    work = n.work ∙ m.work;
  }

-- ---- the ends of the edges of a row
pub ends-none : (es : Entries) (a : ℕ) (s : Flood) → MeetsEnds es a 0 s s
ends-none es a s = record { positions = []; all = λ place b h e. absurd (omega arith); only = λ b h. absurd (true≢false (sym h)); meets = meets-none s }

pub ends-next : (es : Entries) (a here : ℕ) (s t u : Flood) → MeetsEnds es a here s t → MeetsEnd es a here t u → MeetsEnds es a (here + 1) s u
ends-next es a here s t u m e = go (linked_end es a here) refl
  where
    go : (o : Option ℕ) → linked_end es a here ≡ o → MeetsEnds es a (here + 1) s u
    go None none = subst (λ v. MeetsEnds es a (here + 1) s v) (sym (e.kept none)) (record { positions = m.positions; all = λ place b h is. all place b is (cases_lt place here) h; only = m.only; meets = m.meets })
      where
        all : (place b : ℕ) → linked_end es a place ≡ Some b → (place < here) ⊎ (here ≤ place) → place < here + 1 → IsOneOf b m.positions
        all place b is (inl lt) h = m.all place b lt is
        all place b is (inr le) h =
            let same : here ≡ place = omega arith in
            let there : linked_end es a place ≡ None = subst (λ k. linked_end es a k ≡ None) same none in
            absurd (cc)
    go (Some end) some = record {
      positions = m.positions ++ end ∷ [];
      all = λ place b h is. all place b is (cases_lt place here) h;
      only = λ b h. only b (one_of-append b m.positions (end ∷ []) h);
      meets = meets-more m.positions end s t u m.meets (e.met end some);
    }
      where
        all : (place b : ℕ) → linked_end es a place ≡ Some b → (place < here) ⊎ (here ≤ place) → place < here + 1 → IsOneOf b (m.positions ++ end ∷ [])
        all place b is (inl lt) h = one_of-left b m.positions (end ∷ []) (m.all place b lt is)
        all place b is (inr le) h =
            let same : here ≡ place = omega arith in
            let there : linked_end es a place ≡ Some end = subst (λ k. linked_end es a k ≡ Some end) same some in
            let ends : end ≡ b = cc in
            one_of-right b m.positions (end ∷ []) (subst (λ n. IsOneOf b (n ∷ [])) (sym ends) (single-one_of b))

        only : (b : ℕ) → IsOneOf b m.positions ⊎ IsOneOf b (end ∷ []) → (place : ℕ) × (linked_end es a place ≡ Some b)
        only b (inl h) = m.only b h
        only b (inr h) = (here, some ∙ ap Some (sym (one_of-single b end h)))

-- ---- one position after another
-- the last of those that wait is taken out
pub record TakesLast (p : ℕ) (old new : Flood) : Type 0 where
  pub numbers : new.numbers ≡ old.numbers
  pub current : new.current ≡ old.current
  pub waiting : old.waiting.items ≡ new.waiting.items ++ p ∷ []
