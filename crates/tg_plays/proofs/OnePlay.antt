-- A script has one play: each answer that is no want of memory, and the world after it, follow from the world before it.
use Rattle.std.proofs.Common.{◌≡◌, ◌⊎◌, inl, inr, ℕ, ◌<◌, ◌++◌, Bool, true, false, MatchBool, List, [], ◌∷◌, length, map, replicate, Option, None, Some, MatchOption, refl, sym, ap, subst, ◌∙◌, arith}
use Rattle.std.specs.Prelude.{codes, slice_get, take}
use Rattle.std.proofs.lemmas.Bool.{false≢true}
use Rattle.tg_names.specs.declared.right_sets.Right.{Right}
use Rattle.tg_graph.specs.declared.session.Act.{Act}
use Rattle.tg_graph.specs.declared.session.Act.TheVariants as act
use Rattle.tg_graph.specs.declared.session.Reply.{Reply}
use Rattle.tg_graph.specs.declared.session.Reply.TheVariants as said
use Rattle.tg_graph.specs.declared.session.Step.{Step}
use Rattle.tg_graph.specs.declared.session.Step.TheVariants.{Do, Holds, Share}
use Rattle.tg_names.specs.Names.{Name}
use Rattle.tg_graph.specs.Graphs.{ProtectionGraph}
use Rattle.tg_graph.specs.GraphOf.{graph_of}
use Rattle.tg_rows.specs.Rows.{Entries}
use Rattle.tg_text.specs.declared.script_text.ScriptLine.{ScriptLine}
use Rattle.tg_hall.specs.declared.answers.Answered.{Answered}
use Rattle.tg_hall.specs.declared.records.Record.{Record}
use Rattle.tg_hall.specs.declared.events.Event.{Event}
use Rattle.tg_hall.specs.declared.events.Event.TheVariants.{Begin, Learn, Stage, Put, Abort}
use Rattle.tg_hall.specs.declared.events.HallReply.{HallReply}
use Rattle.tg_hall.specs.declared.events.HallReply.TheVariants as reply
use Rattle.tg_hall.specs.declared.events.HallFault.TheVariants.{NoSeat, AlreadyOpen, NotOpen, Changed, Crowded, JournalFull, Memory}
use Rattle.tg_hall.specs.Answers.{IsAnswer, after_steps}
use Rattle.tg_hall.specs.Touches.{IsClear, IsSpoilt, IsOvercrowded}
use Rattle.tg_text.specs.ScriptText.{ScriptOf}
use Rattle.tg_text.specs.Canonical.{canonical_text}
use Rattle.tg_words.specs.Spelling.{line_of}
use Rattle.tg_hall.specs.Histories.{replay}
use Rattle.tg_hall.specs.Worlds.{World, opened, SeatView, seat_of, seat_in, rests_on, with_seat, with_session, one_further, Opens, TakesIn, Learns, Says, Joins, Moves, Happens, Run}
use Rattle.tg_hall.specs.Acts.{is_learned, is_free, Repeats, OpensAfter, CatchesUp, Acts}
use Rattle.tg_inputs.specs.Readings.{ReportText}
use Rattle.tg_plays.specs.Runs.{outcome_words, outcome_line, Plays, IsPlayed}
use Rattle.tg_plays.proofs.ActLemmas.{happens_keeps, run_keeps, acts_keep}

-- an answer that is no want of memory
abbrev pub IsGiven : HallReply → Type 0
IsGiven answer = answer ≡ reply.Refused Memory → ⊥

some_is : {A : Type 0} (x y : A) → Some x ≡ Some y → x ≡ y
some_is x y e = cc

none_is_some : {A : Type 0} (x : A) → None ≡ Some x → ⊥
none_is_some x e = cc

-- ---- steps
share_one : (g : ProtectionGraph) (right : Right) (x y : Name) (a b : Reply) → IsAnswer g (Share right x y) a → IsAnswer g (Share right x y) b → a ≡ b
share_one g right x y said.Yes said.Yes h k = refl
share_one g right x y said.Yes said.No h k = absurd (k.1 h.1)
share_one g right x y said.Yes (said.Refused r) h k = absurd (none_is_some r (sym h.0 ∙ k))
share_one g right x y said.Yes said.Done h k = absurd k
share_one g right x y said.No said.Yes h k = absurd (h.1 k.1)
share_one g right x y said.No said.No h k = refl
share_one g right x y said.No (said.Refused r) h k = absurd (none_is_some r (sym h.0 ∙ k))
share_one g right x y said.No said.Done h k = absurd k
share_one g right x y (said.Refused r) said.Yes h k = absurd (none_is_some r (sym k.0 ∙ h))
share_one g right x y (said.Refused r) said.No h k = absurd (none_is_some r (sym k.0 ∙ h))
share_one g right x y (said.Refused r) (said.Refused s) h k = ap said.Refused (some_is r s (sym h ∙ k))
share_one g right x y (said.Refused r) said.Done h k = absurd k
share_one g right x y said.Done b h k = absurd h

answer_one : (g : ProtectionGraph) (step : Step) (a b : Reply) → IsAnswer g step a → IsAnswer g step b → a ≡ b
answer_one g (Do rule) a b h k = h ∙ sym k
answer_one g (Holds right x y) a b h k = h ∙ sym k
answer_one g (Share right x y) a b h k = share_one g right x y a b h k

-- ---- seats
opens_is : (s t : SeatView) (a : HallReply) → IsGiven a → Opens s a t → (a ≡ reply.Done) × (t ≡ with_session s (Some []))
opens_is s t reply.Done f h = (refl, h)
opens_is s t (reply.Refused Memory) f h = absurd (f refl)
opens_is s t _ f h = absurd h

begins_one : (s t u : SeatView) (a b : HallReply) (o : Option (List Answered)) → IsGiven a → IsGiven b → MatchOption o (Opens s a t) (λ _. (a ≡ reply.Refused AlreadyOpen) × (t ≡ s)) → MatchOption o (Opens s b u) (λ _. (b ≡ reply.Refused AlreadyOpen) × (u ≡ s)) → (a ≡ b) × (t ≡ u)
begins_one s t u a b None f e h k =
    let i = opens_is s t a f h in
    let j = opens_is s u b e k in
    (i.0 ∙ sym j.0, i.1 ∙ sym j.1)
begins_one s t u a b (Some steps) f e h k = (h.0 ∙ sym k.0, h.1 ∙ sym k.1)

-- a record is taken in, or spoils the session, or crowds it
IsTaken : ProtectionGraph → Record → SeatView → HallReply → SeatView → Type 0
IsTaken g r s a t =
    ((a ≡ reply.Learned s.taken) × IsClear g r.steps s.session × (t ≡ one_further s))
    ⊎ (((name : Name) × (a ≡ reply.Refused (Changed s.taken name)) × IsSpoilt g r.steps s.session name × (t ≡ with_session s None))
    ⊎ ((a ≡ reply.Refused (Crowded s.taken)) × IsOvercrowded g r.steps s.session × (t ≡ with_session s None)))

takes_is : (g : ProtectionGraph) (r : Record) (s t : SeatView) (a : HallReply) → IsGiven a → TakesIn g r s a t → IsTaken g r s a t
unfolding IsTaken
takes_is g r s t (reply.Learned place) f h = inl (ap reply.Learned h.0, h.1, h.2)
takes_is g r s t (reply.Refused (Changed place name)) f h = inr (inl (name, ap (λ (p : ℕ). reply.Refused (Changed p name)) h.0, h.1, h.2))
takes_is g r s t (reply.Refused (Crowded place)) f h = inr (inr (ap (λ (p : ℕ). reply.Refused (Crowded p)) h.0, h.1, h.2))
takes_is g r s t (reply.Refused Memory) f h = absurd (f refl)
takes_is g r s t _ f h = absurd h

not_spoilt : (g : ProtectionGraph) (steps : List Answered) (o : Option (List Answered)) (name : Name) → IsClear g steps o → IsSpoilt g steps o name → ⊥
not_spoilt g steps None name h k = k
not_spoilt g steps (Some session) name h k = none_is_some name (sym h.0 ∙ k)

not_crowded : (g : ProtectionGraph) (steps : List Answered) (o : Option (List Answered)) → IsClear g steps o → IsOvercrowded g steps o → ⊥
not_crowded g steps None h k = k
not_crowded g steps (Some session) h k = h.1 k.1

not_both : (g : ProtectionGraph) (steps : List Answered) (o : Option (List Answered)) (name : Name) → IsSpoilt g steps o name → IsOvercrowded g steps o → ⊥
not_both g steps None name h k = h
not_both g steps (Some session) name h k = none_is_some name (sym k.0 ∙ h)

one_name : (g : ProtectionGraph) (steps : List Answered) (o : Option (List Answered)) (m n : Name) → IsSpoilt g steps o m → IsSpoilt g steps o n → m ≡ n
one_name g steps None m n h k = absurd h
one_name g steps (Some session) m n h k = some_is m n (sym h ∙ k)

taken_one : (g : ProtectionGraph) (r : Record) (s t u : SeatView) (a b : HallReply) → IsTaken g r s a t → IsTaken g r s b u → (a ≡ b) × (t ≡ u)
unfolding IsTaken
taken_one g r s t u a b (inl h) (inl k) = (h.0 ∙ sym k.0, h.2 ∙ sym k.2)
taken_one g r s t u a b (inl h) (inr (inl k)) = absurd (not_spoilt g r.steps s.session k.0 h.1 k.2)
taken_one g r s t u a b (inl h) (inr (inr k)) = absurd (not_crowded g r.steps s.session h.1 k.1)
taken_one g r s t u a b (inr (inl h)) (inl k) = absurd (not_spoilt g r.steps s.session h.0 k.1 h.2)
taken_one g r s t u a b (inr (inl h)) (inr (inl k)) =
    (h.1 ∙ (ap (λ (n : Name). reply.Refused (Changed s.taken n)) (one_name g r.steps s.session h.0 k.0 h.2 k.2) ∙ sym k.1), h.3 ∙ sym k.3)
taken_one g r s t u a b (inr (inl h)) (inr (inr k)) = absurd (not_both g r.steps s.session h.0 h.2 k.1)
taken_one g r s t u a b (inr (inr h)) (inl k) = absurd (not_crowded g r.steps s.session k.1 h.1)
taken_one g r s t u a b (inr (inr h)) (inr (inl k)) = absurd (not_both g r.steps s.session k.0 k.2 h.1)
taken_one g r s t u a b (inr (inr h)) (inr (inr k)) = (h.0 ∙ sym k.0, h.2 ∙ sym k.2)

takes_one : (g : ProtectionGraph) (r : Record) (s t u : SeatView) (a b : HallReply) → IsGiven a → IsGiven b → TakesIn g r s a t → TakesIn g r s b u → (a ≡ b) × (t ≡ u)
takes_one g r s t u a b f e h k = taken_one g r s t u a b (takes_is g r s t a f h) (takes_is g r s u b e k)

learns_one : (g : ProtectionGraph) (next : Option Record) (s t u : SeatView) (a b : HallReply) → IsGiven a → IsGiven b → Learns g next s a t → Learns g next s b u → (a ≡ b) × (t ≡ u)
learns_one g None s t u a b f e h k = (h.0 ∙ sym k.0, h.1 ∙ sym k.1)
learns_one g (Some r) s t u a b f e h k = takes_one g r s t u a b f e h k

says_is : (g : ProtectionGraph) (steps : List Answered) (step : Step) (s t : SeatView) (a : HallReply) → IsGiven a → Says g steps step s a t → (answer : Reply) × (a ≡ reply.Said answer) × IsAnswer (after_steps g steps) step answer × (t ≡ with_session s (Some (steps ++ (record { step = step; reply = answer }) ∷ [])))
says_is g steps step s t (reply.Said answer) f h = (answer, refl, h.0, h.1)
says_is g steps step s t (reply.Refused Memory) f h = absurd (f refl)
says_is g steps step s t _ f h = absurd h

stages_one : (g : ProtectionGraph) (step : Step) (s t u : SeatView) (a b : HallReply) (o : Option (List Answered)) → IsGiven a → IsGiven b → MatchOption o ((a ≡ reply.Refused NotOpen) × (t ≡ s)) (λ steps. Says g steps step s a t) → MatchOption o ((b ≡ reply.Refused NotOpen) × (u ≡ s)) (λ steps. Says g steps step s b u) → (a ≡ b) × (t ≡ u)
stages_one g step s t u a b None f e h k = (h.0 ∙ sym k.0, h.1 ∙ sym k.1)
stages_one g step s t u a b (Some steps) f e h k =
    let i = says_is g steps step s t a f h in
    let j = says_is g steps step s u b e k in
    let same = answer_one (after_steps g steps) step i.0 j.0 i.2 j.2 in
    let F : Reply → SeatView = λ answer. with_session s (Some (steps ++ (record { step = step; reply = answer }) ∷ [])) in
    (i.1 ∙ (ap reply.Said same ∙ sym j.1), i.3 ∙ (ap F same ∙ sym j.3))

aborts_one : (s t u : SeatView) (a b : HallReply) (o : Option (List Answered)) → MatchOption o ((a ≡ reply.Refused NotOpen) × (t ≡ s)) (λ _. (a ≡ reply.Done) × (t ≡ with_session s None)) → MatchOption o ((b ≡ reply.Refused NotOpen) × (u ≡ s)) (λ _. (b ≡ reply.Done) × (u ≡ with_session s None)) → (a ≡ b) × (t ≡ u)
aborts_one s t u a b None h k = (h.0 ∙ sym k.0, h.1 ∙ sym k.1)
aborts_one s t u a b (Some steps) h k = (h.0 ∙ sym k.0, h.1 ∙ sym k.1)

-- two outcomes of an event are one
pub record AreOne (a b : HallReply) (t u : SeatView) (l m : List Record) : Type 0 where
  pub answer : a ≡ b
  pub seat : t ≡ u
  pub later : l ≡ m

joins_one : (cells k : ℕ) (history : List Record) (steps : List Answered) (s t u : SeatView) (a b : HallReply) (l m : List Record) → IsGiven a → IsGiven b → Joins cells k history steps s a t l → Joins cells k history steps s b u m → AreOne a b t u l m
joins_one cells k history steps s t u (reply.Put p) (reply.Put q) l m f e h i = record { answer = ap reply.Put (h.0 ∙ sym i.0); seat = h.2 ∙ sym i.2; later = h.3 ∙ sym i.3 }
joins_one cells k history steps s t u (reply.Put p) (reply.Refused JournalFull) l m f e h i = absurd (omega (arith, h.1, i.0))
joins_one cells k history steps s t u (reply.Put p) (reply.Refused Memory) l m f e h i = absurd (e refl)
joins_one cells k history steps s t u (reply.Put p) _ l m f e h i = absurd i
joins_one cells k history steps s t u (reply.Refused JournalFull) (reply.Put q) l m f e h i = absurd (omega (arith, h.0, i.1))
joins_one cells k history steps s t u (reply.Refused JournalFull) (reply.Refused JournalFull) l m f e h i = record { answer = refl; seat = h.1 ∙ sym i.1; later = h.2 ∙ sym i.2 }
joins_one cells k history steps s t u (reply.Refused JournalFull) (reply.Refused Memory) l m f e h i = absurd (e refl)
joins_one cells k history steps s t u (reply.Refused JournalFull) _ l m f e h i = absurd i
joins_one cells k history steps s t u (reply.Refused Memory) b l m f e h i = absurd (f refl)
joins_one cells k history steps s t u _ b l m f e h i = absurd h

put_one : (g : ProtectionGraph) (cells k : ℕ) (history : List Record) (steps : List Answered) (s t u : SeatView) (a b : HallReply) (l m : List Record) (next : Option Record) → IsGiven a → IsGiven b → MatchOption next (Joins cells k history steps s a t l) (λ r. TakesIn g r s a t × (l ≡ history)) → MatchOption next (Joins cells k history steps s b u m) (λ r. TakesIn g r s b u × (m ≡ history)) → AreOne a b t u l m
put_one g cells k history steps s t u a b l m None f e h i = joins_one cells k history steps s t u a b l m f e h i
put_one g cells k history steps s t u a b l m (Some r) f e h i =
    let one = takes_one g r s t u a b f e h.0 i.0 in
    record { answer = one.0; seat = one.1; later = h.1 ∙ sym i.1 }

puts_one : (g : ProtectionGraph) (cells k : ℕ) (history : List Record) (s t u : SeatView) (a b : HallReply) (l m : List Record) (o : Option (List Answered)) → IsGiven a → IsGiven b → MatchOption o ((a ≡ reply.Refused NotOpen) × (t ≡ s) × (l ≡ history)) (λ steps. MatchOption (slice_get history s.taken) (Joins cells k history steps s a t l) (λ r. TakesIn g r s a t × (l ≡ history))) → MatchOption o ((b ≡ reply.Refused NotOpen) × (u ≡ s) × (m ≡ history)) (λ steps. MatchOption (slice_get history s.taken) (Joins cells k history steps s b u m) (λ r. TakesIn g r s b u × (m ≡ history))) → AreOne a b t u l m
puts_one g cells k history s t u a b l m None f e h i = record { answer = h.0 ∙ sym i.0; seat = h.1 ∙ sym i.1; later = h.2 ∙ sym i.2 }
puts_one g cells k history s t u a b l m (Some steps) f e h i = put_one g cells k history steps s t u a b l m (slice_get history s.taken) f e h i

with_later : (a b : HallReply) (t u : SeatView) (l m history : List Record) → (a ≡ b) × (t ≡ u) → l ≡ history → m ≡ history → AreOne a b t u l m
with_later a b t u l m history one e k = record { answer = one.0; seat = one.1; later = e ∙ sym k }

moves_one : (g : ProtectionGraph) (cells : ℕ) (history : List Record) (s : SeatView) (event : Event) (a b : HallReply) (t u : SeatView) (l m : List Record) → IsGiven a → IsGiven b → Moves g cells history s event a t l → Moves g cells history s event b u m → AreOne a b t u l m
moves_one g cells history s (Begin k) a b t u l m f e h i = with_later a b t u l m history (begins_one s t u a b s.session f e h.0 i.0) h.1 i.1
moves_one g cells history s (Learn k) a b t u l m f e h i = with_later a b t u l m history (learns_one g (slice_get history s.taken) s t u a b f e h.0 i.0) h.1 i.1
moves_one g cells history s (Stage k step) a b t u l m f e h i = with_later a b t u l m history (stages_one g step s t u a b s.session f e h.0 i.0) h.1 i.1
moves_one g cells history s (Put k) a b t u l m f e h i = puts_one g cells k history s t u a b l m s.session f e h i
moves_one g cells history s (Abort k) a b t u l m f e h i = with_later a b t u l m history (aborts_one s t u a b s.session h.0 i.0) h.1 i.1

-- ---- events
pub happens_one : (w v u : World) (event : Event) (a b : HallReply) → IsGiven a → IsGiven b → Happens w event a v → Happens w event b u → (a ≡ b) × (v ≡ u)
happens_one w v u event a b f e h i = by (seat_of w (seat_in event)) h i
  where
    by : (o : Option SeatView) → MatchOption o ((a ≡ reply.Refused NoSeat) × (v ≡ w)) (λ s. (t : SeatView) × (later : List Record) × Moves (rests_on w s) w.cells w.history s event a t later × (v ≡ with_seat w (seat_in event) t later)) → MatchOption o ((b ≡ reply.Refused NoSeat) × (u ≡ w)) (λ s. (t : SeatView) × (later : List Record) × Moves (rests_on w s) w.cells w.history s event b t later × (u ≡ with_seat w (seat_in event) t later)) → (a ≡ b) × (v ≡ u)
    by None h i = (h.0 ∙ sym i.0, h.1 ∙ sym i.1)
    by (Some s) h i =
        let one = moves_one (rests_on w s) w.cells w.history s event a b h.0 i.0 h.1 i.1 f e h.2 i.2 in
        let F : SeatView → World = λ t. with_seat w (seat_in event) t h.1 in
        let G : List Record → World = λ l. with_seat w (seat_in event) i.0 l in
        (one.answer, h.3 ∙ (ap F one.seat ∙ (ap G one.later ∙ sym i.3)))

given_by_test : (a : HallReply) → is_learned a ≡ true → IsGiven a
given_by_test a h e = false≢true (sym (ap is_learned e) ∙ h)

not_learned : (a : HallReply) (place : ℕ) → is_learned a ≡ false → a ≡ reply.Learned place → ⊥
not_learned a place h e = false≢true (sym h ∙ ap is_learned e)

repeats_one : (w v u : World) (event : Event) (a b : HallReply) (ps qs : List ℕ) → IsGiven a → IsGiven b → is_learned a ≡ false → is_learned b ≡ false → Run w (replicate (length ps) event ++ event ∷ []) (map reply.Learned ps ++ a ∷ []) v → Run w (replicate (length qs) event ++ event ∷ []) (map reply.Learned qs ++ b ∷ []) u → (a ≡ b) × (v ≡ u)
repeats_one w v u event a b [] [] f e la lb h i =
    let one = happens_one w h.0 i.0 event a b f e h.1 i.1 in
    (one.0, h.2 ∙ (one.1 ∙ sym i.2))
repeats_one w v u event a b [] (q ∷ qs) f e la lb h i =
    absurd (not_learned a q la (happens_one w h.0 i.0 event a (reply.Learned q) f (given_by_test (reply.Learned q) refl) h.1 i.1).0)
repeats_one w v u event a b (p ∷ ps) [] f e la lb h i =
    absurd (not_learned b p lb (happens_one w i.0 h.0 event b (reply.Learned p) e (given_by_test (reply.Learned p) refl) i.1 h.1).0)
repeats_one w v u event a b (p ∷ ps) (q ∷ qs) f e la lb h i =
    let one = happens_one w h.0 i.0 event (reply.Learned p) (reply.Learned q) (given_by_test (reply.Learned p) refl) (given_by_test (reply.Learned q) refl) h.1 i.1 in
    repeats_one h.0 v u event a b ps qs f e la lb h.2 (subst (λ (m : World). Run m (replicate (length qs) event ++ event ∷ []) (map reply.Learned qs ++ b ∷ []) u) (sym one.1) i.2)

-- ---- acts
told_given : (mid v : World) (k : ℕ) (told answer : HallReply) → IsGiven answer → OpensAfter mid k told answer v → IsGiven told
told_given mid v k reply.Nothing answer f h = λ e. cc
told_given mid v k (reply.Learned place) answer f h = λ e. f (h.0 ∙ e)
told_given mid v k reply.Done answer f h = λ e. f (h.0 ∙ e)
told_given mid v k (reply.Said said) answer f h = λ e. f (h.0 ∙ e)
told_given mid v k (reply.Put place) answer f h = λ e. f (h.0 ∙ e)
told_given mid v k (reply.Refused fault) answer f h = λ e. f (h.0 ∙ e)

opens_one : (mid v u : World) (k : ℕ) (told a b : HallReply) → IsGiven a → IsGiven b → OpensAfter mid k told a v → OpensAfter mid k told b u → (a ≡ b) × (v ≡ u)
opens_one mid v u k reply.Nothing a b f e h i = happens_one mid v u (Begin k) a b f e h i
opens_one mid v u k (reply.Learned place) a b f e h i = (h.0 ∙ sym i.0, h.1 ∙ sym i.1)
opens_one mid v u k reply.Done a b f e h i = (h.0 ∙ sym i.0, h.1 ∙ sym i.1)
opens_one mid v u k (reply.Said said) a b f e h i = (h.0 ∙ sym i.0, h.1 ∙ sym i.1)
opens_one mid v u k (reply.Put place) a b f e h i = (h.0 ∙ sym i.0, h.1 ∙ sym i.1)
opens_one mid v u k (reply.Refused fault) a b f e h i = (h.0 ∙ sym i.0, h.1 ∙ sym i.1)

catches_one : (w v u : World) (k : ℕ) (a b : HallReply) → IsGiven a → IsGiven b → CatchesUp w k a v → CatchesUp w k b u → (a ≡ b) × (v ≡ u)
catches_one w v u k a b f e h i =
    let one = repeats_one w h.mid i.mid (Learn k) h.told i.told h.learns.places i.learns.places (told_given h.mid v k h.told a f h.begins) (told_given i.mid u k i.told b e i.begins) h.learns.last i.learns.last h.learns.run i.learns.run in
    opens_one h.mid v u k h.told a b f e h.begins (subst (λ (m : World). OpensAfter m k h.told b u) (sym one.1) (subst (λ (r : HallReply). OpensAfter i.mid k r b u) (sym one.0) i.begins))

begin_one : (w v u : World) (k : ℕ) (a b : HallReply) (free : Bool) → IsGiven a → IsGiven b → MatchBool free (CatchesUp w k a v) (Happens w (Begin k) a v) → MatchBool free (CatchesUp w k b u) (Happens w (Begin k) b u) → (a ≡ b) × (v ≡ u)
begin_one w v u k a b true f e h i = catches_one w v u k a b f e h i
begin_one w v u k a b false f e h i = happens_one w v u (Begin k) a b f e h i

acts_one : (w v u : World) (k : ℕ) (done : Act) (a b : HallReply) → IsGiven a → IsGiven b → Acts w k done a v → Acts w k done b u → (a ≡ b) × (v ≡ u)
acts_one w v u k act.Begin a b f e h i = begin_one w v u k a b (is_free w k) f e h i
acts_one w v u k (act.Stage step) a b f e h i = happens_one w v u (Stage k step) a b f e h i
acts_one w v u k act.Commit a b f e h i = repeats_one w v u (Put k) a b h.places i.places f e h.last i.last h.run i.run
acts_one w v u k act.Abort a b f e h i = happens_one w v u (Abort k) a b f e h i

given_if_told : (a : HallReply) → 0 < length (outcome_words a) → IsGiven a
given_if_told a h e = let none : 0 < 0 = subst (λ (r : HallReply). 0 < length (outcome_words r)) e h in omega (arith, none)

pub plays_one : (w v u : World) (events : List ScriptLine) (text other : List ℕ) → Plays w events text v → Plays w events other u → (text ≡ other) × (v ≡ u)
plays_one w v u [] text other h i = (h.0 ∙ sym i.0, h.1 ∙ sym i.1)
plays_one w v u (event ∷ events) text other h i =
    let one = acts_one w h.0 i.0 event.seat event.act h.3.answer i.3.answer (given_if_told h.3.answer h.3.told) (given_if_told i.3.answer i.3.told) h.3.act i.3.act in
    let line : h.1 ≡ i.1 = h.3.written ∙ (ap (outcome_line event) one.0 ∙ sym i.3.written) in
    let rest = plays_one h.0 v u events h.2 i.2 h.4 (subst (λ (m : World). Plays m events i.2 u) (sym one.1) i.4) in
    (h.5 ∙ (ap (λ (t : List ℕ). t ++ h.2) line ∙ (ap (λ (t : List ℕ). i.1 ++ t) rest.0 ∙ sym i.5)), rest.1)

-- ---- another opening with the same graph
-- the world with these rows at its start
abbrev re_opened : Entries → World → World
re_opened rows w = record { opening = rows; cells = w.cells; history = w.history; seats = w.seats }

happens_there : (rows : Entries) (w v : World) (event : Event) (a : HallReply) → graph_of w.opening ≡ graph_of rows → Happens w event a v → Happens (re_opened rows w) event a (re_opened rows v)
happens_there rows w v event a e h = by (seat_of w (seat_in event)) h
  where
    by : (o : Option SeatView) → MatchOption o ((a ≡ reply.Refused NoSeat) × (v ≡ w)) (λ s. (t : SeatView) × (later : List Record) × Moves (rests_on w s) w.cells w.history s event a t later × (v ≡ with_seat w (seat_in event) t later)) → MatchOption o ((a ≡ reply.Refused NoSeat) × (re_opened rows v ≡ re_opened rows w)) (λ s. (t : SeatView) × (later : List Record) × Moves (rests_on (re_opened rows w) s) w.cells w.history s event a t later × (re_opened rows v ≡ with_seat (re_opened rows w) (seat_in event) t later))
    by None h = (h.0, ap (re_opened rows) h.1)
    by (Some s) h =
        (h.0, h.1, subst (λ (g : ProtectionGraph). Moves (replay g (take s.taken w.history)) w.cells w.history s event a h.0 h.1) e h.2, ap (re_opened rows) h.3)

after_keeps : (rows : Entries) (w v : World) → v.opening ≡ w.opening → graph_of w.opening ≡ graph_of rows → graph_of v.opening ≡ graph_of rows
after_keeps rows w v keep e = ap graph_of keep ∙ e

run_there : (rows : Entries) (w v : World) (events : List Event) (answers : List HallReply) → graph_of w.opening ≡ graph_of rows → Run w events answers v → Run (re_opened rows w) events answers (re_opened rows v)
run_there rows w v [] [] e r = ap (re_opened rows) r
run_there rows w v [] (a ∷ answers) e r = absurd r
run_there rows w v (event ∷ events) [] e r = absurd r
run_there rows w v (event ∷ events) (a ∷ answers) e r = (
  re_opened rows r.0,
  happens_there rows w r.0 event a e r.1,
  run_there rows r.0 v events answers (after_keeps rows w r.0 (happens_keeps w r.0 event a r.1).opening e) r.2,
)

opens_there : (rows : Entries) (mid v : World) (k : ℕ) (told a : HallReply) → graph_of mid.opening ≡ graph_of rows → OpensAfter mid k told a v → OpensAfter (re_opened rows mid) k told a (re_opened rows v)
opens_there rows mid v k reply.Nothing a e h = happens_there rows mid v (Begin k) a e h
opens_there rows mid v k (reply.Learned place) a e h = (h.0, ap (re_opened rows) h.1)
opens_there rows mid v k reply.Done a e h = (h.0, ap (re_opened rows) h.1)
opens_there rows mid v k (reply.Said said) a e h = (h.0, ap (re_opened rows) h.1)
opens_there rows mid v k (reply.Put place) a e h = (h.0, ap (re_opened rows) h.1)
opens_there rows mid v k (reply.Refused fault) a e h = (h.0, ap (re_opened rows) h.1)

repeats_there : (rows : Entries) (w v : World) (event : Event) (a : HallReply) → graph_of w.opening ≡ graph_of rows → Repeats w event a v → Repeats (re_opened rows w) event a (re_opened rows v)
repeats_there rows w v event a e h = record { places = h.places; run = run_there rows w v _ _ e h.run; last = h.last }

begin_there : (rows : Entries) (w v : World) (k : ℕ) (a : HallReply) (free : Bool) → graph_of w.opening ≡ graph_of rows → MatchBool free (CatchesUp w k a v) (Happens w (Begin k) a v) → MatchBool free (CatchesUp (re_opened rows w) k a (re_opened rows v)) (Happens (re_opened rows w) (Begin k) a (re_opened rows v))
begin_there rows w v k a true e h = record {
  mid = re_opened rows h.mid;
  told = h.told;
  learns = repeats_there rows w h.mid (Learn k) h.told e h.learns;
  begins = opens_there rows h.mid v k h.told a (after_keeps rows w h.mid (run_keeps w h.mid _ _ h.learns.run).opening e) h.begins;
}
begin_there rows w v k a false e h = happens_there rows w v (Begin k) a e h

acts_there : (rows : Entries) (w v : World) (k : ℕ) (done : Act) (a : HallReply) → graph_of w.opening ≡ graph_of rows → Acts w k done a v → Acts (re_opened rows w) k done a (re_opened rows v)
acts_there rows w v k act.Begin a e h = begin_there rows w v k a (is_free w k) e h
acts_there rows w v k (act.Stage step) a e h = happens_there rows w v (Stage k step) a e h
acts_there rows w v k act.Commit a e h = repeats_there rows w v (Put k) a e h
acts_there rows w v k act.Abort a e h = happens_there rows w v (Abort k) a e h

plays_there : (rows : Entries) (w v : World) (events : List ScriptLine) (text : List ℕ) → graph_of w.opening ≡ graph_of rows → Plays w events text v → Plays (re_opened rows w) events text (re_opened rows v)
plays_there rows w v [] text e p = (p.0, ap (re_opened rows) p.1)
plays_there rows w v (event ∷ events) text e p = (
  re_opened rows p.0,
  p.1,
  p.2,
  record { answer = p.3.answer; act = acts_there rows w p.0 event.seat event.act p.3.answer e p.3.act; told = p.3.told; written = p.3.written },
  plays_there rows p.0 v events p.2 (after_keeps rows w p.0 (acts_keep w p.0 event.seat event.act p.3.answer p.3.act).opening e) p.4,
  p.5,
)

-- ---- reports
pub played_one : (g : ProtectionGraph) (script : ScriptOf) (a b : ReportText) → IsPlayed g script a → IsPlayed g script b → a ≡ b
played_one g script a b p q =
    let there = plays_there p.opening (opened q.opening script.cells script.seats) q.end script.lines q.outcomes (q.opens ∙ sym p.opens) q.plays in
    let one = plays_one (opened p.opening script.cells script.seats) p.end (re_opened p.opening q.end) script.lines p.outcomes q.outcomes p.plays there in
    let history : p.end.history ≡ q.end.history = ap (λ (w : World). w.history) one.1 in
    let F : List ℕ → ReportText = λ outcomes. record { bytes = outcomes ++ line_of (codes "graph" ∷ []) ++ canonical_text (replay g p.end.history); status = 0 } in
    let G : List Record → ReportText = λ records. record { bytes = q.outcomes ++ line_of (codes "graph" ∷ []) ++ canonical_text (replay g records); status = 0 } in
    p.says ∙ (ap F one.0 ∙ (ap G history ∙ sym q.says))
