-- Seats that agree.
use Rattle.std.proofs.Common.{◌≡◌, ◌==◌, ℕ, zero, suc, ◌<◌, Bool, ◌||◌, true, false, List, [], ◌∷◌, length, take, get_or, Some, All, refl, sym, ap, subst, ◌∙◌, arith}
use Rattle.std.specs.Prelude.{slice_get}
use Rattle.std.proofs.lemmas.Bool.{false≢true, eqb-true}
use Rattle.std.proofs.lemmas.Option.{slice_get_within, slice_get_read, slice_get-get_or, get_or_from_slice_get}
use Rattle.tg_graph.specs.Graphs.{ProtectionGraph}
use Rattle.tg_graph.specs.GraphOf.{graph_of}
use Rattle.tg_hall.specs.declared.records.Record.{Record}
use Rattle.tg_store.specs.declared.outcomes.Begun.{Begun}
use Rattle.tg_store.specs.declared.outcomes.Begun.TheVariants.{Session, Refused}
use Rattle.tg_hall.specs.Answers.{AreAnswers, after_steps}
use Rattle.tg_hall.specs.Histories.{replay, IsLegal}
use Rattle.tg_store.specs.Running.{RunningStore, RunningSeat, IsOf, IsSeat, GoesOn, PutsNothing, seen_graph}
use Rattle.tg_store.specs.Agreed.{has_number, AreAgreed}
use Rattle.tg_store.specs.Outcomes.{BeginSays}
use Rattle.tg_store.proofs.RunningSeats.{goes_on-trans}

-- ---- begin
pub begin-after : (old mid : RunningSeat) (answer : Begun) → GoesOn old mid → PutsNothing old mid → BeginSays mid answer → BeginSays old answer
begin-after old mid (Session s) g n h = (goes_on-trans old mid s.seat g h.0, h.1 ∙ n, h.2, h.3, h.4, h.5)
begin-after old mid (Refused new fault) g n h = (goes_on-trans old mid new g h.0, h.1 ∙ n, h.2, h.3)

-- ---- lists, place by place
pub some_is : (r x : Record) → Some r ≡ Some x → r ≡ x
some_is r x e = cc

pub lists-same : (xs ys : List Record) → length xs ≡ length ys → ((i : ℕ) → i < length xs → slice_get xs i ≡ slice_get ys i) → xs ≡ ys
lists-same [] [] n h = refl
lists-same [] (y ∷ ys) n h = absurd (omega (arith, n))
lists-same (x ∷ xs) [] n h = absurd (omega (arith, n))
lists-same (x ∷ xs) (y ∷ ys) n h =
    let here = some_is x y (h zero (omega arith)) in
    let rest = lists-same xs ys (omega (arith, n)) (λ i lt. h (suc i) (omega (arith, lt))) in
    (λ i. here i ∷ rest i)

-- ---- records that are each true are legal
pub legal-each : (g : ProtectionGraph) (history : List Record) → ((i : ℕ) (r : Record) → slice_get history i ≡ Some r → AreAnswers (replay g (take i history)) r.steps) → IsLegal g history
legal-each g [] h = tt
legal-each g (x ∷ rest) h = (h zero x refl, legal-each (after_steps g x.steps) rest (λ i r e. h (suc i) r e))

-- ---- agreed seats
-- one of the seats has the number
numbered_seat : (seats : List RunningSeat) (n : ℕ) → has_number seats n ≡ true → (k : ℕ) × (t : RunningSeat) × (slice_get seats k ≡ Some t) × (t.pass.number ≡ n)
numbered_seat [] n e = absurd (false≢true e)
numbered_seat (s ∷ rest) n e = by (s.pass.number == n) refl e (numbered_seat rest n)
  where
    by : (b : Bool) → (s.pass.number == n) ≡ b → (b || has_number rest n) ≡ true → (has_number rest n ≡ true → (k : ℕ) × (t : RunningSeat) × (slice_get rest k ≡ Some t) × (t.pass.number ≡ n)) → (k : ℕ) × (t : RunningSeat) × (slice_get (s ∷ rest) k ≡ Some t) × (t.pass.number ≡ n)
    by true is e later = (0, s, refl, eqb-true s.pass.number n is)
    by false is e later = let p = later e in (suc p.0, p.1, p.2, p.3)

-- what holds of all holds of the one at a place
at_place : (P : RunningSeat → Type 0) (seats : List RunningSeat) (k : ℕ) (t : RunningSeat) → All P seats → slice_get seats k ≡ Some t → P t
at_place P seats k t h e = subst P (get_or_from_slice_get seats k t t e) (h k t (slice_get_within seats k t e))

-- a record that a seat has seen under its own number is true there
own-true : (t : RunningSeat) (i : ℕ) (r : Record) → IsSeat t → slice_get t.pass.seen i ≡ Some r → r.seat ≡ t.pass.number → AreAnswers (seen_graph t i) r.steps
own-true t i r h e n =
    let c = (h.pass.own i).1 (r, e, n) in
    let o = h.own c.0 i (slice_get_read t.pass.mine (length t.pass.mine) c.0 i refl c.1 (sym c.2)) in
    subst (λ (x : Record). AreAnswers (seen_graph t i) x.steps) (some_is o.stored r (sym o.stands ∙ e)) o.answers

pub legal-agreed : (store : RunningStore) (seats : List RunningSeat) → All (IsOf store) seats → All IsSeat seats → AreAgreed seats → All (λ s. IsLegal (graph_of store.opening) s.pass.seen) seats
legal-agreed store seats of kept a k d lt =
    subst (IsLegal (graph_of store.opening)) (sym (a.same k (get_or seats k d) (slice_get-get_or seats k d lt)))
    (legal-each (graph_of store.opening) a.first.pass.seen (λ i r e.
    let p = numbered_seat seats r.seat (a.own i r e) in
    let t = p.1 in
    let seen = a.same p.0 t p.2 in
    let opening = (at_place (IsOf store) seats p.0 t of p.2).0 in
    subst (λ g. AreAnswers g r.steps) (λ j. replay (graph_of (opening j)) (take i (seen j)))
    (own-true t i r (at_place IsSeat seats p.0 t kept p.2) (ap (λ rs. slice_get rs i) seen ∙ e) (sym p.3))))
