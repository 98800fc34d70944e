-- What the calls of a running seat keep.
use Rattle.std.proofs.Common.{◌≡◌, ℕ, zero, suc, true, ◌+◌, ◌-◌, ◌<◌, ◌≤◌, ◌⊎◌, List, [], ◌∷◌, ◌++◌, length, take, get_or, Some, is_some, refl, sym, ap, subst, ◌∙◌, arith, inl, inr}
use Rattle.std.specs.Prelude.{slice_get, if◌then◌else◌}
use Rattle.std.proofs.lemmas.Bool.{cases_lt, false≢true}
use Rattle.std.proofs.lemmas.List.{length-append, length-take, take-append-le, take-take, take_all, get_or_push, get_or_append_left}
use Rattle.std.proofs.lemmas.Option.{slice_get_within, slice_get_read, get_or_from_slice_get}
use Rattle.tg_rows.specs.Rows.{Entries}
use Rattle.tg_graph.specs.GraphOf.{graph_of}
use Rattle.tg_journal.specs.declared.answers.Next.{Next}
use Rattle.tg_journal.specs.declared.answers.Next.TheVariants as next
use Rattle.tg_journal.specs.declared.answers.Put.{Put}
use Rattle.tg_journal.specs.declared.answers.Put.TheVariants as put
use Rattle.tg_journal.specs.Lists.{Begins}
use Rattle.tg_journal.specs.Pass.{PassState, IsPass, Remembers}
use Rattle.tg_journal.specs.Answers.{NextSays, PutSays}
use Rattle.tg_hall.specs.declared.records.Record.{Record}
use Rattle.tg_store.specs.declared.running_seats.Look.{Look}
use Rattle.tg_store.specs.declared.running_seats.Look.TheVariants.{Found, Nothing, Foreign}
use Rattle.tg_hall.specs.Answers.{AreAnswers}
use Rattle.tg_hall.specs.Histories.{replay}
use Rattle.tg_store.specs.Running.{RunningSeat, seat_number, seen_graph, IsOwnRecord, IsSeat, KnowsNoMore, GoesOn, PutsNothing}
use Rattle.tg_store.specs.Outcomes.{FindsForeign}
use Rattle.tg_store.specs.Looks.{is_found, LookSays, FindSays}

-- ---- lists that begin with others
pub begins-refl : (xs : List Record) → Begins xs xs
begins-refl xs = take_all (length xs) xs (omega arith)

pub begins-push : (xs ys : List Record) (r : Record) → ys ≡ xs ++ r ∷ [] → Begins xs ys
begins-push xs ys r e = subst (Begins xs) (sym e) (take-append-le (length xs) xs (r ∷ []) (omega arith) ∙ take_all (length xs) xs (omega arith))

pub begins-take : (xs ys : List Record) (n : ℕ) → Begins xs ys → n ≤ length xs → take n ys ≡ take n xs
begins-take xs ys n b le = sym (take-take n (length xs) ys le) ∙ ap (take n) b

get-take : (n : ℕ) (ys : List Record) (i : ℕ) (r : Record) → slice_get (take n ys) i ≡ Some r → slice_get ys i ≡ Some r
get-take zero ys i r e = absurd (false≢true (ap is_some e))
get-take (suc n) [] i r e = absurd (false≢true (ap is_some e))
get-take (suc n) (y ∷ ys) zero r e = e
get-take (suc n) (y ∷ ys) (suc i) r e = get-take n ys i r e

pub begins-get : (xs ys : List Record) (i : ℕ) (r : Record) → Begins xs ys → slice_get xs i ≡ Some r → slice_get ys i ≡ Some r
begins-get xs ys i r b e = get-take (length xs) ys i r (ap (λ zs. slice_get zs i) b ∙ e)

pub begins-length : (xs ys : List Record) → Begins xs ys → length xs ≤ length ys
begins-length xs ys b = let e = ap length b in let m = length-take (length xs) ys in omega (arith, e, m)

pub begins-trans : (xs ys zs : List Record) → Begins xs ys → Begins ys zs → Begins xs zs
begins-trans xs ys zs b c = begins-take ys zs (length xs) c (begins-length xs ys b) ∙ b

pub get-push : {X : Type 0} (xs : List X) (x : X) → slice_get (xs ++ x ∷ []) (length xs) ≡ Some x
get-push xs x = slice_get_read (xs ++ x ∷ []) (length (xs ++ x ∷ [])) (length xs) x refl (omega (arith, length-append xs (x ∷ []))) (sym (get_or_push xs x x (length xs) refl))

-- an element of a list with one more is an element before, or the last
get-split : (xs : List ℕ) (x i y : ℕ) → slice_get (xs ++ x ∷ []) i ≡ Some y → (slice_get xs i ≡ Some y) ⊎ ((i ≡ length xs) × (y ≡ x))
get-split xs x i y e = by (cases_lt i (length xs))
  where
    read : get_or (xs ++ x ∷ []) i y ≡ y
    read = get_or_from_slice_get (xs ++ x ∷ []) i y y e

    by : (i < length xs) ⊎ (length xs ≤ i) → (slice_get xs i ≡ Some y) ⊎ ((i ≡ length xs) × (y ≡ x))
    by (inl lt) = inl (slice_get_read xs (length xs) i y refl lt (sym (sym (get_or_append_left xs (x ∷ []) y i lt) ∙ read)))
    by (inr le) =
        let at : length xs ≡ i = let w = slice_get_within (xs ++ x ∷ []) i y e in omega (arith, w, length-append xs (x ∷ []), le) in
        inr (sym at, sym read ∙ get_or_push xs x y i at)

-- ---- a seat that has seen more
module _ (s t : RunningSeat) (o : t.opening ≡ s.opening) (b : Begins s.pass.seen t.pass.seen) where
  pub graph-kept : (place : ℕ) → place ≤ length s.pass.seen → seen_graph t place ≡ seen_graph s place
  graph-kept place le i = replay (graph_of (o i)) (begins-take s.pass.seen t.pass.seen place b le i)

  module _ (n : t.pass.number ≡ s.pass.number) where
    pub own-kept : (i place : ℕ) → IsOwnRecord s i place → IsOwnRecord t i place
    own-kept i place h =
        let lt = slice_get_within s.pass.seen place h.stored h.stands in
        record {
          stored = h.stored;
          stands = begins-get s.pass.seen t.pass.seen place h.stored b h.stands;
          seat = h.seat ∙ sym n;
          number = h.number;
          answers = subst (λ g. AreAnswers g h.stored.steps) (sym (graph-kept place (omega (arith, lt)))) h.answers;
        }

    module _ (taken : t.taken ≡ s.taken) (graph : t.graph ≡ s.graph) (p : IsPass seat_number t.pass) (h : IsSeat s) where
      -- and put nothing
      pub seat-sees : t.pass.mine ≡ s.pass.mine → IsSeat t
      seat-sees mine = record {
        pass = p;
        within = omega (arith, h.within, taken, begins-length s.pass.seen t.pass.seen b);
        replayed = ap graph_of graph ∙ h.replayed ∙ sym (graph-kept s.taken h.within) ∙ ap (seen_graph t) (sym taken);
        own = λ i place e. own-kept i place (h.own i place (ap (λ m. slice_get m i) (sym mine) ∙ e));
      }

      -- or a record of its own, which is true where it stands
      pub seat-puts : (r : Record) (place : ℕ) → s.taken ≡ length s.pass.seen → place ≡ length s.pass.seen → t.pass.seen ≡ s.pass.seen ++ r ∷ [] → t.pass.mine ≡ s.pass.mine ++ place ∷ []
          → r.seat ≡ s.pass.number → r.number ≡ length s.pass.mine → AreAnswers (graph_of s.graph) r.steps → IsSeat t
      seat-puts r place all at seen mine seat number answers = record {
        pass = p;
        within = omega (arith, h.within, taken, begins-length s.pass.seen t.pass.seen b);
        replayed = ap graph_of graph ∙ h.replayed ∙ sym (graph-kept s.taken h.within) ∙ ap (seen_graph t) (sym taken);
        own = λ i there e. by i there (get-split s.pass.mine place i there (ap (λ m. slice_get m i) (sym mine) ∙ e));
      }
        where
          here : graph_of s.graph ≡ seen_graph t place
          here = h.replayed ∙ ap (seen_graph s) (all ∙ sym at) ∙ sym (graph-kept place (omega (arith, at)))

          last : IsOwnRecord t (length s.pass.mine) place
          last = record {
            stored = r;
            stands = (λ i. slice_get (seen i) (at i)) ∙ get-push s.pass.seen r;
            seat = seat ∙ sym n;
            number = number;
            answers = subst (λ g. AreAnswers g r.steps) here answers;
          }

          by : (i there : ℕ) → (slice_get s.pass.mine i ≡ Some there) ⊎ ((i ≡ length s.pass.mine) × (there ≡ place)) → IsOwnRecord t i there
          by i there (inl e) = own-kept i there (h.own i there e)
          by i there (inr e) = subst (λ k. IsOwnRecord t k there) (sym e.0) (subst (λ k. IsOwnRecord t (length s.pass.mine) k) (sym e.1) last)

-- a seat that has taken in so many of the records that it has seen
pub seat-at : (s : RunningSeat) (n : ℕ) (rows : Entries) → IsSeat s → n ≤ length s.pass.seen → graph_of rows ≡ seen_graph s n → IsSeat (record { opening = s.opening; pass = s.pass; taken = n; graph = rows })
seat-at s n rows h le e = record {
  pass = h.pass;
  within = le;
  replayed = e;
  own = λ i place is. own-kept s (record { opening = s.opening; pass = s.pass; taken = n; graph = rows }) refl (begins-refl s.pass.seen) refl i place (h.own i place is);
}

-- ---- a look
abbrev pub looked : {R : Type 0} → Next R → Look
looked (next.Entry r) = Found
looked next.End = Nothing
looked (next.Foreign place) = Foreign place

next-begins : (answer : Next Record) (old new : PassState Record) → NextSays seat_number answer old new → Begins old.seen new.seen
next-begins (next.Entry r) old new h = begins-push old.seen new.seen r.now h.0
next-begins next.End old new h = subst (λ (p : PassState Record). Begins old.seen p.seen) (sym h.0) (begins-refl old.seen)
next-begins (next.Foreign place) old new h = subst (Begins old.seen) (sym h.0) (begins-refl old.seen)

finds : (answer : Next Record) (s t : RunningSeat) → t.opening ≡ s.opening → t.taken ≡ s.taken → t.graph ≡ s.graph → NextSays seat_number answer s.pass t.pass → FindSays s (looked answer) t
finds (next.Entry r) s t o n g h = ap length h.0 ∙ length-append s.pass.seen (r.now ∷ [])
finds next.End s t o n g h = (λ i. record { opening = o i; pass = h.0 i; taken = n i; graph = g i }, h.1)
finds (next.Foreign place) s t o n g h = (ap length h.0, h.1)

pub look-says : (answer : Next Record) (look : Look) (s t : RunningSeat) → look ≡ looked answer → t.opening ≡ s.opening → t.taken ≡ s.taken → t.graph ≡ s.graph → t.pass.number ≡ s.pass.number → t.pass.cells ≡ s.pass.cells → t.pass.mine ≡ s.pass.mine
    → Remembers s.pass t.pass → IsPass seat_number t.pass → NextSays seat_number answer s.pass t.pass → IsSeat s → LookSays s look t
look-says answer look s t is o n g number cells mine known p says h =
    let b = next-begins answer s.pass t.pass says in
    record {
      goes_on = record { opening = o; number = number; cells = cells; known = known; seen = b; taken = omega (arith, n) };
      nothing_put = mine;
      copy = (n, g);
      seat = seat-sees s t o b number n g p h mine;
      finds = subst (λ look. FindSays s look t) (sym is) (finds answer s t o n g says);
    }

-- ---- going on
pub goes_on-refl : (s : RunningSeat) → GoesOn s s
goes_on-refl s = record { opening = refl; number = refl; cells = refl; known = λ place r k. k; seen = begins-refl s.pass.seen; taken = omega arith }

pub goes_on-trans : (s t u : RunningSeat) → GoesOn s t → GoesOn t u → GoesOn s u
goes_on-trans s t u a b = record {
  opening = b.opening ∙ a.opening;
  number = b.number ∙ a.number;
  cells = b.cells ∙ a.cells;
  known = λ place r k. b.known place r (a.known place r k);
  seen = begins-trans s.pass.seen t.pass.seen u.pass.seen a.seen b.seen;
  taken = omega (arith, a.taken, b.taken);
}

-- it has seen and put no more
pub goes_on-taken : (s t : RunningSeat) → t.opening ≡ s.opening → t.pass ≡ s.pass → s.taken ≤ t.taken → GoesOn s t
goes_on-taken s t o p le = record {
  opening = o;
  number = ap (λ (p : PassState Record). p.number) p;
  cells = ap (λ (p : PassState Record). p.cells) p;
  known = subst (Remembers s.pass) (sym p) (λ place r k. k);
  seen = subst (λ (p : PassState Record). Begins s.pass.seen p.seen) (sym p) (begins-refl s.pass.seen);
  taken = le;
}

-- ---- one look after another
-- after some looks, of which this was the last
pub record Looked (old : RunningSeat) (look : Look) (new : RunningSeat) : Type 0 where
  pub goes_on : GoesOn old new
  pub nothing_put : PutsNothing old new
  pub seat : IsSeat new
  pub no_more : look ≡ Nothing → KnowsNoMore new
  pub foreign : (place : ℕ) → look ≡ Foreign place → FindsForeign place new

-- how many looks may follow
abbrev pub left_after : Look → RunningSeat → ℕ
left_after look s = length s.pass.cells - length s.pass.seen + (if is_found look then 1 else 0)

foreign_found : (old : RunningSeat) (look : Look) (new : RunningSeat) (place : ℕ) → look ≡ Foreign place → FindSays old look new → FindsForeign place new
foreign_found old look new place e h = (subst (λ look. FindSays old look new) e h).1

none_known : (old : RunningSeat) (look : Look) (new : RunningSeat) → look ≡ Nothing → FindSays old look new → KnowsNoMore new
none_known old look new e h = let found = subst (λ look. FindSays old look new) e h in subst KnowsNoMore (sym found.0) found.1

pub looked-first : (s : RunningSeat) (look : Look) (t : RunningSeat) → LookSays s look t → Looked s look t
looked-first s look t h = record { goes_on = h.goes_on; nothing_put = h.nothing_put; seat = h.seat; no_more = λ e. none_known s look t e h.finds; foreign = λ place e. foreign_found s look t place e h.finds }

pub looked-next : (s t u : RunningSeat) (first look : Look) → Looked s first t → LookSays t look u → Looked s look u
looked-next s t u first look a h = record {
  goes_on = goes_on-trans s t u a.goes_on h.goes_on;
  nothing_put = h.nothing_put ∙ a.nothing_put;
  seat = h.seat;
  no_more = λ e. none_known t look u e h.finds;
  foreign = λ place e. foreign_found t look u place e h.finds;
}

pub left-falls : (t u : RunningSeat) (first look : Look) → is_found first ≡ true → LookSays t look u → left_after look u < left_after first t
left-falls t u first look e h = by look h.finds
  where
    one : ◌≡◌ {A = ℕ} (if is_found first then 1 else 0) 1
    one = ap (λ b. if b then 1 else 0) e

    same : length u.pass.cells ≡ length t.pass.cells
    same = ap length h.goes_on.cells

    more : length t.pass.seen ≤ length u.pass.seen
    more = begins-length t.pass.seen u.pass.seen h.goes_on.seen

    by : (look : Look) → FindSays t look u → left_after look u < left_after first t
    by Found f = let w = h.seat.pass.within in omega (arith, one, same, f, w)
    by Nothing f = omega (arith, one, same, more)
    by (Foreign place) f = omega (arith, one, same, more)

-- ---- a put
put-begins : (stored : Record) (answer : Put) (old new : PassState Record) → PutSays seat_number stored answer old new → Begins old.seen new.seen
put-begins stored put.Full old new h = subst (λ (p : PassState Record). Begins old.seen p.seen) (sym h) (begins-refl old.seen)
put-begins stored put.Memory old new h = subst (λ (p : PassState Record). Begins old.seen p.seen) (sym h) (begins-refl old.seen)
put-begins stored (put.Won place) old new h = begins-push old.seen new.seen stored h.1
put-begins stored (put.Lost place) old new h = begins-push old.seen new.seen h.2.0 h.2.1
put-begins stored (put.Foreign place) old new h = subst (Begins old.seen) (sym h.0) (begins-refl old.seen)

put-mine : (stored : Record) (answer : Put) (old new : PassState Record) → ((place : ℕ) → answer ≡ put.Won place → ⊥) → PutSays seat_number stored answer old new → new.mine ≡ old.mine
put-mine stored put.Full old new other h = ap (λ (p : PassState Record). p.mine) h
put-mine stored put.Memory old new other h = ap (λ (p : PassState Record). p.mine) h
put-mine stored (put.Won place) old new other h = absurd (other place refl)
put-mine stored (put.Lost place) old new other h = h.1
put-mine stored (put.Foreign place) old new other h = h.1

module _ (s t : RunningSeat) (o : t.opening ≡ s.opening) (taken : t.taken ≡ s.taken) (graph : t.graph ≡ s.graph) (number : t.pass.number ≡ s.pass.number) (stored : Record) where
  pub put-goes_on : (answer : Put) → t.pass.cells ≡ s.pass.cells → Remembers s.pass t.pass → PutSays seat_number stored answer s.pass t.pass → GoesOn s t
  put-goes_on answer cells known says = record { opening = o; number = number; cells = cells; known = known; seen = put-begins stored answer s.pass t.pass says; taken = omega (arith, taken) }

  module _ (p : IsPass seat_number t.pass) (h : IsSeat s) where
    seat-won : (place : ℕ) → s.taken ≡ length s.pass.seen → stored.seat ≡ s.pass.number → stored.number ≡ length s.pass.mine → AreAnswers (graph_of s.graph) stored.steps → PutSays seat_number stored (put.Won place) s.pass t.pass → IsSeat t
    seat-won place all seat count answers says =
        seat-puts s t o (begins-push s.pass.seen t.pass.seen stored says.1) number taken graph p h stored place all says.0 says.1 says.2 seat count answers

    pub seat-not-won : (answer : Put) → ((place : ℕ) → answer ≡ put.Won place → ⊥) → PutSays seat_number stored answer s.pass t.pass → IsSeat t
    seat-not-won answer other says =
        seat-sees s t o (put-begins stored answer s.pass t.pass says) number taken graph p h (put-mine stored answer s.pass t.pass other says)

    -- whatever the answer is
    pub seat-put : (answer : Put) → s.taken ≡ length s.pass.seen → stored.seat ≡ s.pass.number → stored.number ≡ length s.pass.mine → AreAnswers (graph_of s.graph) stored.steps → PutSays seat_number stored answer s.pass t.pass → IsSeat t
    seat-put put.Full all seat count answers says = seat-not-won put.Full (λ place e. cc) says
    seat-put put.Memory all seat count answers says = seat-not-won put.Memory (λ place e. cc) says
    seat-put (put.Won place) all seat count answers says = seat-won place all seat count answers says
    seat-put (put.Lost there) all seat count answers says = seat-not-won (put.Lost there) (λ place e. cc) says
    seat-put (put.Foreign there) all seat count answers says = seat-not-won (put.Foreign there) (λ place e. cc) says

-- ---- lists that begin with others, backwards
get-take-back : (n : ℕ) (ys : List Record) (i : ℕ) (r : Record) → i < n → slice_get ys i ≡ Some r → slice_get (take n ys) i ≡ Some r
get-take-back zero ys i r lt e = absurd (omega (arith, lt))
get-take-back (suc n) [] i r lt e = absurd (false≢true (ap is_some e))
get-take-back (suc n) (y ∷ ys) zero r lt e = e
get-take-back (suc n) (y ∷ ys) (suc i) r lt e = get-take-back n ys i r (omega (arith, lt)) e

pub begins-back : (xs ys : List Record) (i : ℕ) (r : Record) → Begins xs ys → i < length xs → slice_get ys i ≡ Some r → slice_get xs i ≡ Some r
begins-back xs ys i r b lt e = sym (ap (λ zs. slice_get zs i) b) ∙ get-take-back (length xs) ys i r lt e
