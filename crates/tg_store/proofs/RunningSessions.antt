-- What the calls of a running session keep.
use Rattle.std.proofs.Common.{◌≡◌, ℕ, ◌+◌, ◌<◌, ◌≤◌, ◌⊎◌, List, [], ◌∷◌, ◌++◌, length, Some, refl, sym, ap, subst, ◌∙◌, arith, inl, inr}
use Rattle.std.specs.Prelude.{slice_get}
use Rattle.std.proofs.lemmas.Bool.{cases_lt}
use Rattle.std.proofs.lemmas.List.{length-append}
use Rattle.std.proofs.lemmas.Option.{slice_get_within}
use Rattle.tg_rows.specs.Rows.{Entries}
use Rattle.tg_graph.specs.GraphOf.{graph_of}
use Rattle.tg_journal.specs.declared.answers.Put.TheVariants as put
use Rattle.tg_journal.specs.Lists.{Begins}
use Rattle.tg_journal.specs.Pass.{PassState, IsPass, Remembers}
use Rattle.tg_journal.specs.Answers.{PutSays}
use Rattle.tg_hall.specs.declared.answers.Answered.{Answered}
use Rattle.tg_hall.specs.declared.records.Record.{Record}
use Rattle.tg_store.specs.declared.outcomes.Committed.{Committed}
use Rattle.tg_store.specs.declared.outcomes.Committed.TheVariants.{Done, Refused, Again}
use Rattle.tg_store.specs.declared.outcomes.CommitFault.TheVariants.{JournalFull, Foreign}
use Rattle.tg_store.specs.declared.running_seats.Look.TheVariants as look
use Rattle.tg_store.specs.Looks.{LookSays}
use Rattle.tg_hall.specs.Answers.{AreAnswers, after_steps}
use Rattle.tg_hall.specs.Touches.{IsClear}
use Rattle.tg_store.specs.Running.{RunningSeat, RunningSession, seat_number, seen_graph, IsSeat, IsSession, GoesOn}
use Rattle.tg_store.specs.Outcomes.{NoneObstructs, IsPut, SessionGoesOn, CommitSays, CommitFaultSays}
use Rattle.tg_store.specs.Attempts.{progress}
use Rattle.tg_store.specs.Offers.{IsNotWon, OfferSays}
use Rattle.tg_store.specs.declared.running_seats.Offered.TheVariants.{Won, Back}
use Rattle.tg_graph.specs.Drafts.{Changes, laid_over}
use Rattle.tg_hall.specs.Drafted.{drafted, IsDraftOf}
use Rattle.tg_journal.specs.declared.answers.Put.{Put}
use Rattle.tg_hall.proofs.Ordered.{replay-next}
use Rattle.tg_store.proofs.RunningSeats.{begins-back, graph-kept, goes_on-refl, goes_on-trans, goes_on-taken, get-push, seat-at, seat-put, seat-not-won, put-goes_on}

-- ---- records that obstruct no session
pub none-yet : (s : RunningSeat) (steps : List Answered) (from to : ℕ) → to ≤ from → NoneObstructs s steps from to
none-yet s steps from to le place r a b e = absurd (omega (arith, le, a, b))

-- what obstructs nothing goes on to obstruct nothing when more is seen
pub none-joined : (s t : RunningSeat) (steps : List Answered) (from mid to : ℕ) → GoesOn s t → mid ≤ length s.pass.seen → NoneObstructs s steps from mid → NoneObstructs t steps mid to → NoneObstructs t steps from to
none-joined s t steps from mid to g le first then place r a b e = by (cases_lt place mid)
  where
    by : (place < mid) ⊎ (mid ≤ place) → IsClear (seen_graph t place) r.steps (Some steps)
    by (inl lt) =
        subst (λ k. IsClear k r.steps (Some steps)) (sym (graph-kept s t g.opening g.seen place (omega (arith, lt, le))))
        (first place r a lt (begins-back s.pass.seen t.pass.seen place r g.seen (omega (arith, lt, le)) e))
    by (inr ge) = then place r ge b e

-- the next record obstructs nothing
pub none-next : (s t : RunningSeat) (steps : List Answered) (r : Record) → GoesOn s t → IsSeat s → slice_get s.pass.seen s.taken ≡ Some r → IsClear (graph_of s.graph) r.steps (Some steps) → NoneObstructs t steps s.taken (s.taken + 1)
none-next s t steps r g h is clear place x a b e =
    let at : s.taken ≡ place = omega (arith, a, b) in
    let lt = slice_get_within s.pass.seen s.taken r is in
    let here = begins-back s.pass.seen t.pass.seen place x g.seen (omega (arith, at, lt)) e in
    let same : r ≡ x = some_is r x (sym is ∙ ap (slice_get s.pass.seen) at ∙ here) in
    subst (λ k. IsClear k x.steps (Some steps)) (h.replayed ∙ ap (seen_graph s) at ∙ sym (graph-kept s t g.opening g.seen place (omega (arith, at, lt))))
    (subst (λ (x : Record). IsClear (graph_of s.graph) x.steps (Some steps)) same clear)
  where
    some_is : (r x : Record) → Some r ≡ Some x → r ≡ x
    some_is r x e = cc

-- ---- a commit in several attempts
module _ (old mid : RunningSession) (g : GoesOn old.seat mid.seat) (mine : mid.seat.pass.mine ≡ old.seat.pass.mine) (none : NoneObstructs mid.seat old.steps old.seat.taken mid.seat.taken) (steps : mid.steps ≡ old.steps) (h : IsSession mid) where
  later : (t : RunningSeat) (to : ℕ) → GoesOn mid.seat t → NoneObstructs t mid.steps mid.seat.taken to → NoneObstructs t old.steps old.seat.taken to
  later t to f then = none-joined mid.seat t old.steps old.seat.taken mid.seat.taken to f h.seat.within none (subst (λ steps. NoneObstructs t steps mid.seat.taken to) steps then)

  put-later : (place : ℕ) (t : RunningSeat) → IsPut mid place t → IsPut old place t
  put-later place t p = record {
    stands = p.stands ∙ (λ i. Some (record { seat = g.number i; number = length (mine i); steps = steps i }));
    mine = p.mine ∙ ap (λ m. m ++ place ∷ []) mine;
    last = p.last;
    taken = p.taken;
  }

  further : (u : RunningSession) → SessionGoesOn mid u → SessionGoesOn old u
  further u c = (goes_on-trans old.seat mid.seat u.seat g c.0, c.1 ∙ mine, later u.seat u.seat.taken c.0 c.2, c.3 ∙ steps, c.4)

  after : (answer : Committed) → CommitSays mid answer → CommitSays old answer
  after (Done t receipt) c =
      (goes_on-trans old.seat mid.seat t g c.0, put-later receipt.place t c.1, later t receipt.place c.0 c.2, c.3)
  after (Refused t fault) c =
      (goes_on-trans old.seat mid.seat t g c.0, c.1 ∙ mine, later t t.taken c.0 c.2, subst (λ steps. CommitFaultSays steps fault t) steps c.3, c.4)
  after (Again u) c = (further u c.0, c.1)

pub commit-after : (old mid : RunningSession) (answer : Committed) → SessionGoesOn old mid → CommitSays mid answer → CommitSays old answer
commit-after old mid answer a c = after old mid a.0 a.1 a.2 a.3 a.4 answer c

pub further-after : (old mid new : RunningSession) → SessionGoesOn old mid → SessionGoesOn mid new → SessionGoesOn old new
further-after old mid new a c = further old mid a.0 a.1 a.2 a.3 a.4 new c

pub commit-start : (s : RunningSession) → IsSession s → SessionGoesOn s s
commit-start s h = (goes_on-refl s.seat, refl, none-yet s.seat s.steps s.seat.taken s.seat.taken (omega arith), refl, h)

-- ---- the next record
pub next-graph : (s : RunningSeat) (r : Record) (rows : Entries) → IsSeat s → slice_get s.pass.seen s.taken ≡ Some r → graph_of rows ≡ after_steps (graph_of s.graph) r.steps → graph_of rows ≡ seen_graph s (s.taken + 1)
next-graph s r rows h is e = e ∙ ap (λ g. after_steps g r.steps) h.replayed ∙ sym (replay-next (graph_of s.opening) s.pass.seen s.taken r is)

pub next-draft : (s : RunningSeat) (r : Record) (draft : Changes) → IsSeat s → slice_get s.pass.seen s.taken ≡ Some r → IsDraftOf s.graph r.steps draft → drafted s.graph draft ≡ seen_graph s (s.taken + 1)
next-draft s r draft h is d = next-graph s r (laid_over s.graph draft) h is d.stands

-- ---- a record that was put
module _ (s t : RunningSeat) (steps : List Answered) (r : Record) (place : ℕ) (all : s.taken ≡ length s.pass.seen) (taken : t.taken ≡ s.taken) (says : PutSays seat_number r (put.Won place) s.pass t.pass) where
  pub put-next : slice_get t.pass.seen t.taken ≡ Some r
  put-next = (λ i. slice_get (says.1 i) ((taken ∙ all) i)) ∙ get-push s.pass.seen r

  pub put-done : (u : RunningSeat) → GoesOn s t → u.opening ≡ t.opening → u.pass ≡ t.pass → u.taken ≡ t.taken + 1 → r ≡ record { seat = s.pass.number; number = length s.pass.mine; steps = steps } → IsSeat u
      → CommitSays (record { seat = s; steps = steps }) (Done u (record { place = place }))
  put-done u g o p n is h =
      let more = ap length says.1 ∙ length-append s.pass.seen (r ∷ []) in
      let at = says.0 in (
        record { opening = o ∙ g.opening; number = ap (λ (p : PassState Record). p.number) p ∙ g.number; cells = ap (λ (p : PassState Record). p.cells) p ∙ g.cells; known = subst (Remembers s.pass) (sym p) g.known; seen = subst (λ (p : PassState Record). Begins s.pass.seen p.seen) (sym p) g.seen; taken = omega (arith, n, taken) },
        record {
          stands = (λ i. slice_get ((ap (λ (p : PassState Record). p.seen) p) i) ((at ∙ sym all ∙ sym taken) i)) ∙ put-next ∙ ap Some is;
          mine = ap (λ (p : PassState Record). p.mine) p ∙ says.2;
          last = ap (λ (p : PassState Record). length p.seen) p ∙ more ∙ ap (λ n. n + 1) (sym at);
          taken = n ∙ ap (λ n. n + 1) (taken ∙ all ∙ sym at);
        },
        none-yet u steps s.taken place (omega (arith, at, all)),
        h,
      )

-- every cell has its record
pub put-full : (s t : RunningSeat) (steps : List Answered) → s.taken ≡ length s.pass.seen → t.taken ≡ s.taken → t.pass ≡ s.pass → length s.pass.seen ≡ length s.pass.cells → GoesOn s t → IsSeat t → CommitSays (record { seat = s; steps = steps }) (Refused t JournalFull)
put-full s t steps all n p full g h =
    let seen = ap (λ (p : PassState Record). length p.seen) p in
    let cells = ap (λ (p : PassState Record). length p.cells) p in
    (g, ap (λ (p : PassState Record). p.mine) p, none-yet t steps s.taken t.taken (omega (arith, n)), (n ∙ all ∙ sym seen, seen ∙ full ∙ sym cells), h)

-- a look finds a record that the seat can't have
pub look-foreign : (s t : RunningSeat) (steps : List Answered) (place : ℕ) → s.taken ≡ length s.pass.seen → LookSays s (look.Foreign place) t → CommitSays (record { seat = s; steps = steps }) (Refused t (Foreign place))
look-foreign s t steps place all h =
    (h.goes_on, h.nothing_put, none-yet t steps s.taken t.taken (let n = h.copy.0 in omega (arith, n)), (h.copy.0 ∙ all ∙ sym h.finds.0, h.finds.1), h.seat)

-- a session that rests on the next record as well
pub rested : (s u : RunningSeat) (steps : List Answered) (r : Record) → IsSeat s → slice_get s.pass.seen s.taken ≡ Some r → IsClear (graph_of s.graph) r.steps (Some steps) → u.opening ≡ s.opening → u.pass ≡ s.pass → u.taken ≡ s.taken + 1 → IsSeat u → AreAnswers (graph_of u.graph) steps
    → SessionGoesOn (record { seat = s; steps = steps }) (record { seat = u; steps = steps }) × (progress (record { seat = s; steps = steps }) < progress (record { seat = u; steps = steps }))
rested s u steps r h is clear o p n k answers =
    let g : GoesOn s u = goes_on-taken s u o p (omega (arith, n)) in
    let seen = ap (λ (p : PassState Record). length p.seen) p in
    ((g, ap (λ (p : PassState Record). p.mine) p, subst (NoneObstructs u steps s.taken) (sym n) (none-next s u steps r g h is clear), refl, record { seat = k; answers = answers }), omega (arith, n, seen))

-- ---- a record that a seat offers
pub is_not_won : (answer : Put) → ((place : ℕ) → answer ≡ put.Won place → ⊥) → IsNotWon answer
is_not_won put.Full h = tt
is_not_won put.Memory h = tt
is_not_won (put.Won place) h = h place refl
is_not_won (put.Lost place) h = tt
is_not_won (put.Foreign place) h = tt

module _ (s : RunningSeat) (h : IsSeat s) (stored : Record) (draft : Changes) (rows : Entries) where
  -- there is no room
  pub offer-unready : (back : Changes) → ◌≡◌ {A = Entries × Changes} (rows, back) (s.graph, draft) → OfferSays s draft stored (Back (record { opening = s.opening; pass = s.pass; taken = s.taken; graph = rows }) back put.Memory)
  offer-unready back e =
      let same : rows ≡ s.graph = ap (λ p. p.0) e in
      let t : RunningSeat = record { opening = s.opening; pass = s.pass; taken = s.taken; graph = rows } in
      (record { says = refl; full = λ e. cc; goes_on = goes_on-taken s t refl refl (omega arith); seat = seat-at s s.taken rows h h.within (ap graph_of same ∙ h.replayed) }, tt, ap (λ p. p.1) e, refl, same)

  module _ (pass : PassState Record) (number : pass.number ≡ s.pass.number) (cells : pass.cells ≡ s.pass.cells) (known : Remembers s.pass pass) (p : IsPass seat_number pass) where
    -- it was not put
    pub offer-back : (answer : Put) (back : Changes) → ◌≡◌ {A = Entries × Changes} (rows, back) (s.graph, draft) → ((place : ℕ) → answer ≡ put.Won place → ⊥) → (answer ≡ put.Full → length s.pass.seen ≡ length s.pass.cells) → PutSays seat_number stored answer s.pass pass
        → OfferSays s draft stored (Back (record { opening = s.opening; pass = pass; taken = s.taken; graph = rows }) back answer)
    offer-back answer back e other full says =
        let same : rows ≡ s.graph = ap (λ p. p.0) e in
        let t : RunningSeat = record { opening = s.opening; pass = pass; taken = s.taken; graph = rows } in
        (record { says = says; full = full; goes_on = put-goes_on s t refl refl same number stored answer cells known says; seat = seat-not-won s t refl refl same number stored p h answer other says }, is_not_won answer other, ap (λ p. p.1) e, refl, same)

    -- it was put
    pub offer-won : (place : ℕ) → s.taken ≡ length s.pass.seen → stored.seat ≡ s.pass.number → stored.number ≡ length s.pass.mine → AreAnswers (graph_of s.graph) stored.steps → graph_of rows ≡ after_steps (graph_of s.graph) stored.steps → PutSays seat_number stored (put.Won place) s.pass pass
        → OfferSays s draft stored (Won (record { opening = s.opening; pass = pass; taken = s.taken + 1; graph = rows }) place)
    offer-won place all seat count answers laid says =
        let t : RunningSeat = record { opening = s.opening; pass = pass; taken = s.taken; graph = s.graph } in
        let u : RunningSeat = record { opening = s.opening; pass = pass; taken = s.taken + 1; graph = rows } in
        let sat = seat-put s t refl refl refl number stored p h (put.Won place) all seat count answers says in
        let next = put-next s t stored.steps stored place all refl says in
        let g = put-goes_on s t refl refl refl number stored (put.Won place) cells known says in
        let lt = slice_get_within pass.seen s.taken stored next in
        (record { says = says; full = λ e. cc; goes_on = goes_on-trans s t u g (goes_on-taken t u refl refl (omega arith)); seat = seat-at t (s.taken + 1) rows sat (omega (arith, lt)) (next-graph t stored rows sat next laid) }, refl)
