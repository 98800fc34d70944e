-- The history of a race, and the commits of which lines tell.
use Rattle.std.proofs.Common.{◌≡◌, ◌⊎◌, inl, inr, ℕ, zero, suc, ◌+◌, ◌<◌, ◌≤◌, List, [], ◌∷◌, ◌++◌, All, Some, length, map, max, take, get_or, is_some, refl, sym, ap, subst, ◌∙◌, arith, append_assoc}
use Rattle.std.specs.Prelude.{slice_get, ⊤, Contains}
use Rattle.std.proofs.lemmas.Bool.{cases_lt, false≢true}
use Rattle.std.proofs.lemmas.List.{append-nil, length-append, length-map, length-take, get_or-map, take-take, take_all, take_more}
use Rattle.std.proofs.lemmas.List.Elements.{All-nil, All-cons, All-append}
use Rattle.std.proofs.lemmas.Option.{slice_get_within}
use Rattle.tg_graph.specs.declared.session.Act.{Act}
use Rattle.tg_graph.specs.declared.session.Act.TheVariants as act
use Rattle.tg_graph.specs.declared.session.Step.{Step}
use Rattle.tg_graph.specs.Graphs.{ProtectionGraph}
use Rattle.tg_graph.specs.GraphOf.{graph_of}
use Rattle.tg_text.specs.declared.script_text.ScriptLine.{ScriptLine}
use Rattle.tg_journal.specs.Lists.{Begins}
use Rattle.tg_hall.specs.declared.answers.Answered.{Answered}
use Rattle.tg_hall.specs.declared.records.Record.{Record}
use Rattle.tg_store.specs.declared.outcomes.Begun.{Begun}
use Rattle.tg_store.specs.declared.outcomes.Begun.TheVariants as begun
use Rattle.tg_store.specs.declared.outcomes.BeginFault.TheVariants as begin
use Rattle.tg_store.specs.declared.outcomes.Committed.{Committed}
use Rattle.tg_store.specs.declared.outcomes.Committed.TheVariants as committed
use Rattle.tg_store.specs.declared.outcomes.CommitFault.TheVariants as commit
use Rattle.tg_hall.specs.Answers.{AreAnswers}
use Rattle.tg_hall.specs.Histories.{replay}
use Rattle.tg_store.specs.Running.{RunningStore, RunningSeat, RunningSession, IsSeat, GoesOn, first_seat, seen_graph}
use Rattle.tg_store.specs.Outcomes.{BeginSays, CommitSays, IsPut}
use Rattle.tg_store.proofs.RunningSeats.{begins-take, begins-get, begins-trans, get-push, goes_on-refl}
use Rattle.tg_store.proofs.Agreeing.{some_is, legal-each}
use Rattle.tg_plays.specs.declared.turns.Player.{Player}
use Rattle.tg_plays.specs.declared.turns.Player.TheVariants.{Free, Open}
use Rattle.tg_plays.specs.declared.turns.RaceReply.{RaceReply}
use Rattle.tg_plays.specs.Races.{seat_at, begun_reply, begun_player, committed_reply, committed_player, with_step, Stages, Turns, TakesTurns, ToldCommit, told_first, told_commits, commits_of, taken_in, StandsIn, SeatPlay, IsPlay, IsSeenByItsSeat, IsHistory}
use Rattle.tg_plays.specs.RaceParts.{MeetsOne, MeetsAll}
use Rattle.tg_plays.proofs.RaceTurns.{turns-go_on}

-- ---- what a seat has taken in
begins-taken : (n : ℕ) (xs : List Record) → Begins (take n xs) xs
begins-taken zero xs = refl
begins-taken (suc n) [] = refl
begins-taken (suc n) (x ∷ xs) = ap (λ ys. x ∷ ys) (begins-taken n xs)

pub taken-begins_seen : (s : RunningSeat) → Begins (taken_in s) s.pass.seen
taken-begins_seen s = begins-taken s.taken s.pass.seen

pub taken-goes_on : (s t : RunningSeat) → GoesOn s t → Begins (taken_in s) (taken_in t)
taken-goes_on s t g =
    let m = length-take s.taken s.pass.seen in
    let le : length (taken_in s) ≤ t.taken = omega (arith, m, g.taken) in
    take-take (length (taken_in s)) t.taken t.pass.seen le ∙ begins-trans (taken_in s) s.pass.seen t.pass.seen (taken-begins_seen s) g.seen

stands-on : (g : ProtectionGraph) (xs ys : List Record) (c : ToldCommit) → Begins xs ys → StandsIn g xs c → StandsIn g ys c
stands-on g xs ys c b h =
    let within = slice_get_within xs c.place c.told h.stands in
    record {
      stands = begins-get xs ys c.place c.told b h.stands;
      answers = subst (λ rs. AreAnswers (replay g rs) c.told.steps) (sym (begins-take xs ys c.place b (omega (arith, within)))) h.answers;
    }

-- ---- the meetings
whole : (xs ys : List Record) → Begins xs ys → length ys ≤ length xs → ys ≡ xs
whole xs ys b le = sym (take_all (length xs) ys le) ∙ b

-- the longer of two that begin a list is the list
longer-of : (xs ys zs : List Record) → Begins xs zs → Begins ys zs → length zs ≡ max (length xs) (length ys) → (zs ≡ xs) ⊎ (zs ≡ ys)
longer-of xs ys zs b c e = by (cases_lt (length xs) (length ys))
  where
    by : (length xs < length ys) ⊎ (length ys ≤ length xs) → (zs ≡ xs) ⊎ (zs ≡ ys)
    by (inl lt) = inr (whole ys zs c (omega (arith, lt, e)))
    by (inr le) = inl (whole xs zs b (omega (arith, le, e)))

get-append : {X : Type 0} (xs ys : List X) (k : ℕ) (x : X) → slice_get xs k ≡ Some x → slice_get (xs ++ ys) k ≡ Some x
get-append [] ys k x e = absurd (false≢true (ap is_some e))
get-append (y ∷ xs) ys zero x e = e
get-append (y ∷ xs) ys (suc k) x e = get-append xs ys k x e

pub meets-none : (first : RunningSeat) → MeetsAll first [] first
meets-none first = record { met = All-nil (λ (o : RunningSeat). Begins o.pass.seen (taken_in first)); all = λ lt. absurd (omega (arith, lt)); reached = (0, first, refl, refl) }

meets-push : (first : RunningSeat) (met : List RunningSeat) (other s t : RunningSeat) → GoesOn s t → MeetsAll first met s → MeetsOne s other t → MeetsAll first (met ++ other ∷ []) t
meets-push first met other s t g h one =
    let P : RunningSeat → Type 0 = λ o. Begins o.pass.seen (taken_in t) in
    let before : All P met = λ k d within. begins-trans (get_or met k d).pass.seen (taken_in s) (taken_in t) (h.met k d within) (taken-goes_on s t g) in
    let seen : Begins other.pass.seen t.pass.seen = begins-trans other.pass.seen (taken_in t) t.pass.seen one.met (taken-begins_seen t) in
    record {
      met = All-append P met (other ∷ []) before (All-cons P other [] one.met (All-nil P));
      all = λ lt. one.all;
      reached = by (longer-of s.pass.seen other.pass.seen t.pass.seen g.seen seen one.longer);
    }
  where
    by : (t.pass.seen ≡ s.pass.seen) ⊎ (t.pass.seen ≡ other.pass.seen) → (k : ℕ) × (u : RunningSeat) × (slice_get (first ∷ (met ++ other ∷ [])) k ≡ Some u) × (t.pass.seen ≡ u.pass.seen)
    by (inl same) = (h.reached.0, h.reached.1, get-append (first ∷ met) (other ∷ []) h.reached.0 h.reached.1 h.reached.2, same ∙ h.reached.3)
    by (inr same) = (length (first ∷ met), other, get-push (first ∷ met) other, same)

-- one meeting more
pub met-more : (first : RunningSeat) (others : List RunningSeat) (i : ℕ) (other s t : RunningSeat) → i < length others → other ≡ get_or others i other → GoesOn s t → MeetsAll first (take i others) s → MeetsOne s other t → MeetsAll first (take (i + 1) others) t
met-more first others i other s t lt is g h one =
    subst (λ met. MeetsAll first met t) (sym (take_more others i other lt ∙ ap (λ x. take i others ++ x ∷ []) (sym is))) (meets-push first (take i others) other s t g h one)

-- ---- a commit
commit_at : ℕ → ℕ → ℕ → List Answered → ToldCommit
commit_at place seat number steps = record { place = place; told = record { seat = seat; number = number; steps = steps } }

put-stands : (s : RunningSession) (place : ℕ) (t : RunningSeat) → GoesOn s.seat t → IsPut s place t → IsSeat t → StandsIn (graph_of s.seat.opening) (taken_in t) (commit_at place s.seat.pass.number (length s.seat.pass.mine) s.steps)
unfolding commit_at
put-stands s place t g put kept =
    let stored : Record = record { seat = s.seat.pass.number; number = length s.seat.pass.mine; steps = s.steps } in
    let whole : taken_in t ≡ t.pass.seen = take_all t.taken t.pass.seen (omega (arith, put.last, put.taken)) in
    let own = kept.own (length s.seat.pass.mine) place (ap (λ places. slice_get places (length s.seat.pass.mine)) put.mine ∙ get-push s.seat.pass.mine place) in
    let same : own.stored ≡ stored = some_is own.stored stored (sym own.stands ∙ put.stands) in
    let answers = subst (λ (r : Record). AreAnswers (seen_graph t place) r.steps) same own.answers in
    let graph : seen_graph t place ≡ replay (graph_of s.seat.opening) (take place (taken_in t)) = λ i. replay (graph_of (g.opening i)) (take place (sym whole i)) in
    record {
      stands = ap (λ rs. slice_get rs place) whole ∙ put.stands;
      answers = subst (λ h. AreAnswers h s.steps) graph answers;
    }

-- ---- what lines told so far, and the seat
abbrev pub HasSteps : Player → List Answered → Type 0
HasSteps (Free s) steps = ⊤
HasSteps (Open s) steps = s.steps ≡ steps

-- the lines told of so many commits of the seat, and of these steps in its open session
pub record IsTied (g : ProtectionGraph) (seat number : ℕ) (steps : List Answered) (p : Player) : Type 0 where
  pub opening : graph_of (seat_at p).opening ≡ g
  pub seat_is : (seat_at p).pass.number ≡ seat
  pub commits : length (seat_at p).pass.mine ≡ number
  pub staged : HasSteps p steps

tied-on : (g : ProtectionGraph) (seat number : ℕ) (steps more : List Answered) (p q : Player) → IsTied g seat number steps p → GoesOn (seat_at p) (seat_at q) → (seat_at q).pass.mine ≡ (seat_at p).pass.mine → HasSteps q more → IsTied g seat number more q
tied-on g seat number steps more p q h go mine staged = record {
  opening = ap graph_of go.opening ∙ h.opening;
  seat_is = go.number ∙ h.seat_is;
  commits = ap length mine ∙ h.commits;
  staged = staged;
}

-- what is known of a player, for the reading of later lines
pub record Reads (g : ProtectionGraph) (seat : ℕ) (P : ToldCommit → Type 0) (later : ℕ → List Answered → List ToldCommit) (q : Player) : Type 0 where
  pub here : (c : ToldCommit) → StandsIn g (taken_in (seat_at q)) c → P c
  pub on : (number : ℕ) (steps : List Answered) → IsTied g seat number steps q → All P (later number steps)

module _ (g : ProtectionGraph) (seat number : ℕ) (steps : List Answered) (P : ToldCommit → Type 0) (later : ℕ → List Answered → List ToldCommit) where
  Told_so : Act → RaceReply → Type 0
  Told_so done a = All P (told_first seat number steps done a later)

  begin-told : (s : RunningSeat) (b : Begun) → IsTied g seat number steps (Free s) → BeginSays s b → Reads g seat P later (begun_player b) → All P (told_first seat number steps act.Begin (begun_reply b) later)
  begin-told s (begun.Session t) tied says reads = reads.on number [] (tied-on g seat number steps [] (Free s) (Open t) tied says.0 says.1 says.2)
  begin-told s (begun.Refused t (begin.Foreign place)) tied says reads = reads.on number steps (tied-on g seat number steps steps (Free s) (Free t) tied says.0 says.1 tt)
  begin-told s (begun.Refused t begin.Memory) tied says reads = reads.on number steps (tied-on g seat number steps steps (Free s) (Free t) tied says.0 says.1 tt)

  put-told : (s : RunningSession) (place : ℕ) (t : RunningSeat) → IsTied g seat number steps (Open s) → GoesOn s.seat t → IsPut s place t → IsSeat t → Reads g seat P later (Free t) → All P (commit_at place seat number steps ∷ later (number + 1) [])
  unfolding commit_at
  put-told s place t tied go put kept reads =
      let count = ap length put.mine in
      let more = length-append s.seat.pass.mine (place ∷ []) in
      let stands = subst (λ h. StandsIn h (taken_in t) (commit_at place s.seat.pass.number (length s.seat.pass.mine) s.steps)) tied.opening (put-stands s place t go put kept) in
      let told = subst (λ c. StandsIn g (taken_in t) c) (λ i. commit_at place (tied.seat_is i) (tied.commits i) (tied.staged i)) stands in
      All-cons P (commit_at place seat number steps) (later (number + 1) []) (reads.here (commit_at place seat number steps) told)
      (reads.on (number + 1) [] (record {
        opening = ap graph_of go.opening ∙ tied.opening;
        seat_is = go.number ∙ tied.seat_is;
        commits = omega (arith, count, more, tied.commits);
        staged = tt;
      }))

  commit-told : (s : RunningSession) (d : Committed) → IsTied g seat number steps (Open s) → CommitSays s d → Reads g seat P later (committed_player d) → All P (told_first seat number steps act.Commit (committed_reply d) later)
  unfolding commit_at
  commit-told s (committed.Done t receipt) tied says reads = put-told s receipt.place t tied says.0 says.1 says.3 reads
  commit-told s (committed.Refused t (commit.Changed place name)) tied says reads = reads.on number steps (tied-on g seat number steps steps (Open s) (Free t) tied says.0 says.1 tt)
  commit-told s (committed.Refused t (commit.Crowded place)) tied says reads = reads.on number steps (tied-on g seat number steps steps (Open s) (Free t) tied says.0 says.1 tt)
  commit-told s (committed.Refused t commit.JournalFull) tied says reads = reads.on number steps (tied-on g seat number steps steps (Open s) (Free t) tied says.0 says.1 tt)
  commit-told s (committed.Refused t (commit.Foreign place)) tied says reads = reads.on number steps (tied-on g seat number steps steps (Open s) (Free t) tied says.0 says.1 tt)
  commit-told s (committed.Again t) tied says reads = reads.on number steps (tied-on g seat number steps steps (Open s) (Open t) tied says.0.0 says.0.1 (says.0.3 ∙ tied.staged))

  -- a turn as its answer and what it leaves are given
  told-as : (done : Act) (a b : RaceReply) (q r : Player) → a ≡ b → q ≡ r → Reads g seat P later q → (Reads g seat P later r → All P (told_first seat number steps done b later)) → All P (told_first seat number steps done a later)
  told-as done a b q r told left reads by =
      subst (λ x. All P (told_first seat number steps done x later)) (sym told) (by (subst (Reads g seat P later) left reads))

  stage-told : (s : RunningSession) (step : Step) (a : RaceReply) (q : Player) → IsTied g seat number steps (Open s) → Stages s step a q → Reads g seat P later q → All P (told_first seat number steps (act.Stage step) a later)
  stage-told s step a q tied (inl h) reads =
      told-as (act.Stage step) a _ q (Open (with_step s step h.0)) h.2 h.3 reads (λ r.
      r.on number (steps ++ (record { step = step; reply = h.0 }) ∷ [])
      (tied-on g seat number steps (steps ++ (record { step = step; reply = h.0 }) ∷ []) (Open s) (Open (with_step s step h.0)) tied (goes_on-refl s.seat) refl (ap (λ ss. ss ++ (record { step = step; reply = h.0 }) ∷ []) tied.staged)))
  stage-told s step a q tied (inr h) reads = told-as (act.Stage step) a _ q (Open s) h.0 h.1 reads (λ r. r.on number steps tied)

  turn-told : (p q : Player) (done : Act) (a : RaceReply) → IsTied g seat number steps p → Turns p done a q → Reads g seat P later q → All P (told_first seat number steps done a later)
  turn-told (Free s) q act.Begin a tied h reads = told-as act.Begin a _ q (begun_player h.begun) h.told h.left reads (begin-told s h.begun tied h.says)
  turn-told (Free s) q (act.Stage step) a tied h reads = told-as (act.Stage step) a _ q (Free s) h.0 h.1 reads (λ r. r.on number steps tied)
  turn-told (Free s) q act.Commit a tied h reads = told-as act.Commit a _ q (Free s) h.0 h.1 reads (λ r. r.on number steps tied)
  turn-told (Free s) q act.Abort a tied h reads = told-as act.Abort a _ q (Free s) h.0 h.1 reads (λ r. r.on number steps tied)
  turn-told (Open s) q act.Begin a tied h reads = told-as act.Begin a _ q (Open s) h.0 h.1 reads (λ r. r.on number steps tied)
  turn-told (Open s) q (act.Stage step) a tied h reads = stage-told s step a q tied h reads
  turn-told (Open s) q act.Commit a tied h reads = told-as act.Commit a _ q (committed_player h.committed) h.told h.left reads (commit-told s h.committed tied h.says)
  turn-told (Open s) q act.Abort a tied h reads =
      told-as act.Abort a _ q (Free s.seat) h.0 h.1 reads (λ r. r.on number steps (tied-on g seat number steps steps (Open s) (Free s.seat) tied (goes_on-refl s.seat) refl tt))

turns-told : (g : ProtectionGraph) (seat number : ℕ) (steps : List Answered) (p q : Player) (events : List ScriptLine) (answers : List RaceReply) → IsTied g seat number steps p → TakesTurns p events answers q → All (StandsIn g (taken_in (seat_at q))) (told_commits seat number steps events answers)
turns-told g seat number steps p q [] [] tied h = λ k d lt. absurd (omega (arith, lt))
turns-told g seat number steps p q [] (a ∷ answers) tied h = absurd h
turns-told g seat number steps p q (e ∷ events) [] tied h = absurd h
turns-told g seat number steps p q (e ∷ events) (a ∷ answers) tied h =
    turn-told g seat number steps (StandsIn g (taken_in (seat_at q))) (λ n ss. told_commits seat n ss events answers) p h.0 e.act a tied h.1 (record {
      here = λ c s. stands-on g (taken_in (seat_at h.0)) (taken_in (seat_at q)) c (taken-goes_on (seat_at h.0) (seat_at q) (turns-go_on h.0 q events answers h.2)) s;
      on = λ n ss t. turns-told g seat n ss h.0 q events answers t h.2;
    })

-- ---- the places of which lines tell
-- these places of a seat's own, and those that later lines tell, are all of them
abbrev pub ToldTo : List ℕ → List ℕ → List ToldCommit → Type 0
ToldTo all mine told = mine ++ map (λ (c : ToldCommit). c.place) told ≡ all

module _ (seat number : ℕ) (steps : List Answered) (later : ℕ → List Answered → List ToldCommit) (all : List ℕ) where
  begun-places : (s : RunningSeat) (b : Begun) → BeginSays s b → ((n : ℕ) (ss : List Answered) → ToldTo all (seat_at (begun_player b)).pass.mine (later n ss)) → ToldTo all s.pass.mine (told_first seat number steps act.Begin (begun_reply b) later)
  begun-places s (begun.Session t) says h = ap (λ mine. mine ++ map (λ (c : ToldCommit). c.place) (later number [])) (sym says.1) ∙ h number []
  begun-places s (begun.Refused t (begin.Foreign place)) says h = ap (λ mine. mine ++ map (λ (c : ToldCommit). c.place) (later number steps)) (sym says.1) ∙ h number steps
  begun-places s (begun.Refused t begin.Memory) says h = ap (λ mine. mine ++ map (λ (c : ToldCommit). c.place) (later number steps)) (sym says.1) ∙ h number steps

  kept-places : (s : RunningSession) (t : RunningSeat) → t.pass.mine ≡ s.seat.pass.mine → ((n : ℕ) (ss : List Answered) → ToldTo all t.pass.mine (later n ss)) → ToldTo all s.seat.pass.mine (later number steps)
  kept-places s t mine h = ap (λ mine. mine ++ map (λ (c : ToldCommit). c.place) (later number steps)) (sym mine) ∙ h number steps

  committed-places : (s : RunningSession) (d : Committed) → CommitSays s d → ((n : ℕ) (ss : List Answered) → ToldTo all (seat_at (committed_player d)).pass.mine (later n ss)) → ToldTo all s.seat.pass.mine (told_first seat number steps act.Commit (committed_reply d) later)
  committed-places s (committed.Done t receipt) says h =
      sym (append_assoc s.seat.pass.mine (receipt.place ∷ []) (map (λ (c : ToldCommit). c.place) (later (number + 1) []))) ∙ (ap (λ mine. mine ++ map (λ (c : ToldCommit). c.place) (later (number + 1) [])) (sym says.1.mine) ∙ h (number + 1) [])
  committed-places s (committed.Refused t (commit.Changed place name)) says h = kept-places s t says.1 h
  committed-places s (committed.Refused t (commit.Crowded place)) says h = kept-places s t says.1 h
  committed-places s (committed.Refused t commit.JournalFull) says h = kept-places s t says.1 h
  committed-places s (committed.Refused t (commit.Foreign place)) says h = kept-places s t says.1 h
  committed-places s (committed.Again t) says h = kept-places s t.seat says.0.1 h

  -- a turn as its answer and what it leaves are given
  places-as : (mine : List ℕ) (done : Act) (a b : RaceReply) (q r : Player) → a ≡ b → q ≡ r → ((n : ℕ) (ss : List Answered) → ToldTo all (seat_at q).pass.mine (later n ss)) → (((n : ℕ) (ss : List Answered) → ToldTo all (seat_at r).pass.mine (later n ss)) → ToldTo all mine (told_first seat number steps done b later)) → ToldTo all mine (told_first seat number steps done a later)
  places-as mine done a b q r told left h by =
      subst (λ x. ToldTo all mine (told_first seat number steps done x later)) (sym told) (by (subst (λ x. (n : ℕ) (ss : List Answered) → ToldTo all (seat_at x).pass.mine (later n ss)) left h))

  turn-places : (p q : Player) (done : Act) (a : RaceReply) → Turns p done a q → ((n : ℕ) (ss : List Answered) → ToldTo all (seat_at q).pass.mine (later n ss)) → ToldTo all (seat_at p).pass.mine (told_first seat number steps done a later)
  turn-places (Free s) q act.Begin a h l = places-as s.pass.mine act.Begin a _ q (begun_player h.begun) h.told h.left l (begun-places s h.begun h.says)
  turn-places (Free s) q (act.Stage step) a h l = places-as s.pass.mine (act.Stage step) a _ q (Free s) h.0 h.1 l (λ l. l number steps)
  turn-places (Free s) q act.Commit a h l = places-as s.pass.mine act.Commit a _ q (Free s) h.0 h.1 l (λ l. l number steps)
  turn-places (Free s) q act.Abort a h l = places-as s.pass.mine act.Abort a _ q (Free s) h.0 h.1 l (λ l. l number steps)
  turn-places (Open s) q act.Begin a h l = places-as s.seat.pass.mine act.Begin a _ q (Open s) h.0 h.1 l (λ l. l number steps)
  turn-places (Open s) q (act.Stage step) a (inl h) l = places-as s.seat.pass.mine (act.Stage step) a _ q (Open (with_step s step h.0)) h.2 h.3 l (λ l. l number (steps ++ (record { step = step; reply = h.0 }) ∷ []))
  turn-places (Open s) q (act.Stage step) a (inr h) l = places-as s.seat.pass.mine (act.Stage step) a _ q (Open s) h.0 h.1 l (λ l. l number steps)
  turn-places (Open s) q act.Commit a h l = places-as s.seat.pass.mine act.Commit a _ q (committed_player h.committed) h.told h.left l (committed-places s h.committed h.says)
  turn-places (Open s) q act.Abort a h l = places-as s.seat.pass.mine act.Abort a _ q (Free s.seat) h.0 h.1 l (λ l. l number steps)

-- a seat has put its records at the places of which its lines tell, one after another
turns-places : (seat number : ℕ) (steps : List Answered) (p q : Player) (events : List ScriptLine) (answers : List RaceReply) → TakesTurns p events answers q → ToldTo (seat_at q).pass.mine (seat_at p).pass.mine (told_commits seat number steps events answers)
turns-places seat number steps p q [] [] h = append-nil (seat_at p).pass.mine ∙ ap (λ x. (seat_at x).pass.mine) (sym h)
turns-places seat number steps p q [] (a ∷ answers) h = absurd h
turns-places seat number steps p q (e ∷ events) [] h = absurd h
turns-places seat number steps p q (e ∷ events) (a ∷ answers) h =
    turn-places seat number steps (λ n ss. told_commits seat n ss events answers) (seat_at q).pass.mine p h.0 e.act a h.1 (λ n ss. turns-places seat n ss h.0 q events answers h.2)

-- ---- the history
module _ (g : ProtectionGraph) (store : RunningStore) (opens : graph_of store.opening ≡ g) (events : List ScriptLine) (plays : List SeatPlay) (each : (k : ℕ) (p : SeatPlay) → slice_get plays k ≡ Some p → IsPlay store events (k + 1) p) where
  module _ (history : List Record) (begins : (k : ℕ) (p : SeatPlay) → slice_get plays k ≡ Some p → Begins (taken_in p.end) history) (agree : (k : ℕ) (p : SeatPlay) → slice_get plays k ≡ Some p → (place : ℕ) (r : Record) → place < length p.end.pass.seen → slice_get history place ≡ Some r → slice_get p.end.pass.seen place ≡ Some r) where
    all-stand : (k : ℕ) (p : SeatPlay) → slice_get plays k ≡ Some p → All (StandsIn g history) (commits_of (k + 1) p)
    all-stand k p e =
        let play = each k p e in
        let start = Free (first_seat store (k + 1)) in
        let tied : IsTied g (k + 1) 0 [] start = record { opening = opens; seat_is = refl; commits = refl; staged = tt } in
        let told = turns-told g (k + 1) 0 [] start play.player p.events p.answers tied play.turns in
        let whole = subst (λ s. Begins (taken_in s) history) play.end (begins k p e) in
        λ i d lt. stands-on g (taken_in (seat_at play.player)) history (get_or (commits_of (k + 1) p) i d) whole (told i d lt)

    own-places : (k : ℕ) (p : SeatPlay) → slice_get plays k ≡ Some p → p.end.pass.mine ≡ map (λ (c : ToldCommit). c.place) (commits_of (k + 1) p)
    own-places k p e =
        let play = each k p e in
        ap (λ (s : RunningSeat). s.pass.mine) play.end ∙ sym (turns-places (k + 1) 0 [] (Free (first_seat store (k + 1))) play.player p.events p.answers play.turns)

    own-number : (k : ℕ) (p : SeatPlay) → slice_get plays k ≡ Some p → p.end.pass.number ≡ k + 1
    own-number k p e =
        let play = each k p e in
        ap (λ (s : RunningSeat). s.pass.number) play.end ∙ (turns-go_on (Free (first_seat store (k + 1))) play.player p.events p.answers play.turns).number

    all-told : (k : ℕ) (p : SeatPlay) → slice_get plays k ≡ Some p → (place : ℕ) (r : Record) → place < length p.end.pass.seen → slice_get history place ≡ Some r → r.seat ≡ k + 1 → Contains (commits_of (k + 1) p) (record { place = place; told = r })
    all-told k p e place r lt at bears =
        let c : ToldCommit = record { place = place; told = r } in
        let own = ((each k p e).seat.pass.own place).1 (r, agree k p e place r lt at, bears ∙ sym (own-number k p e)) in
        let there = subst (λ places. Contains places place) (own-places k p e) own in
        let within : there.0 < length (commits_of (k + 1) p) = omega (arith, there.1, length-map (commits_of (k + 1) p) (λ (c : ToldCommit). c.place)) in
        let d = get_or (commits_of (k + 1) p) there.0 c in
        let where_it_is : d.place ≡ place = sym (get_or-map (λ (c : ToldCommit). c.place) (commits_of (k + 1) p) there.0 c place within) ∙ there.2 in
        let stands = all-stand k p e there.0 c within in
        let what_it_is : d.told ≡ r = some_is d.told r (sym stands.stands ∙ (ap (slice_get history) where_it_is ∙ at)) in
        (there.0, within, λ i. record { place = where_it_is i; told = what_it_is i })

    true-at : (i : ℕ) (r : Record) → slice_get history i ≡ Some r → IsSeenByItsSeat plays i r → AreAnswers (replay g (take i history)) r.steps
    true-at i r e t =
        let c = all-told t.seat t.play t.plays_so i r t.seen e t.bears in
        (subst (StandsIn g history) c.2 (all-stand t.seat t.play t.plays_so c.0 (record { place = i; told = r }) c.1)).answers

    pub history-is : IsHistory g plays history
    history-is = record {
      begins = begins;
      stand = all-stand;
      told = all-told;
      legal = λ all. legal-each g history (λ i r e. true-at i r e (all i r e));
    }
