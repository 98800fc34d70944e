-- Records laid on a graph while a session watches.
use Rattle.std.proofs.Common.{◌≡◌, ℕ, suc, ◌+◌, ◌<◌, Bool, true, false, List, [], ◌∷◌, ◌++◌, length, take, drop, get_or, Option, None, Some, is_some, refl, sym, ap, ◌∙◌, arith, true≢false, bytes_eq}
use Rattle.std.specs.Prelude.{find, count_by, if◌then◌else◌}
use Rattle.std.specs.List.{IsDistinct, list_any}
use Rattle.std.proofs.Math.Seq.{drop-cons}
use Rattle.std.proofs.lemmas.List.{length-append}
use Rattle.tg_names.specs.Names.{Name, same_name}
use Rattle.tg_graph.specs.Graphs.{ProtectionGraph}
use Rattle.tg_rows.specs.Rows.{Entries, is_known}
use Rattle.tg_graph.specs.GraphOf.{graph_of}
use Rattle.tg_graph.specs.Drafts.{Changes, Fits}
use Rattle.tg_graph.proofs.Drafts.{fits-none}
use Rattle.tg_hall.specs.Drafted.{drafted}
use Rattle.tg_graph.specs.Limits.{most_vertices}
use Rattle.tg_hall.specs.declared.answers.Answered.{Answered}
use Rattle.tg_hall.specs.Answers.{AreAnswers, after_step, after_steps}
use Rattle.tg_hall.specs.Touches.{touches, step_writes, writes, creates, spoiler, name_count, IsCrowded}
use Rattle.tg_hall.specs.Told.{tells_creation}
use Rattle.tg_hall.proofs.Agreement.{vertices-steps}
use Rattle.tg_hall.proofs.Crowds.{name_count-apart}
use Rattle.tg_hall.proofs.Told.{creates-told}

-- ---- the first name that passes a test
pub find_left : (test : Name → Bool) (vs ws : List Name) → is_some (find test vs) ≡ true → find test (vs ++ ws) ≡ find test vs
find_left test [] ws e = absurd (true≢false (sym e))
find_left test (v ∷ vs) ws e = by (test v) e (find_left test vs ws)
  where
    by : (b : Bool) → is_some (if b then Some v else find test vs) ≡ true → (is_some (find test vs) ≡ true → find test (vs ++ ws) ≡ find test vs) → (if b then Some v else find test (vs ++ ws)) ≡ (if b then Some v else find test vs)
    by true e f = refl
    by false e f = f e

pub find_right : (test : Name → Bool) (vs ws : List Name) → find test vs ≡ None → find test (vs ++ ws) ≡ find test ws
find_right test [] ws e = refl
find_right test (v ∷ vs) ws e = by (test v) e (find_right test vs ws)
  where
    by : (b : Bool) → (if b then Some v else find test vs) ≡ None → (find test vs ≡ None → find test (vs ++ ws) ≡ find test ws) → (if b then Some v else find test (vs ++ ws)) ≡ find test ws
    by true e f = absurd (true≢false (ap is_some e))
    by false e f = f e

-- ---- what is left of the steps
left_is : (steps : List Answered) (i : ℕ) (a : Answered) → i < length steps → a ≡ get_or steps i a → drop i steps ≡ a ∷ drop (i + 1) steps
left_is steps i a lt is =
    drop-cons steps i a lt ∙ (λ j. sym is j ∷ drop (let e : suc i ≡ i + 1 = omega arith in e j) steps)

module _ (g : ProtectionGraph) (steps session : List Answered) (i : ℕ) (a : Answered) (lt : i < length steps) (is : a ≡ get_or steps i a) where
  here : spoiler g (drop i steps) session ≡ find (touches session) (step_writes g a.step ++ writes (after_step g a.step) (drop (i + 1) steps))
  here = ap (λ left. spoiler g left session) (left_is steps i a lt is)

  -- the next step spoils
  pub spoilt-here : is_some (find (touches session) (step_writes g a.step)) ≡ true → spoiler g (drop i steps) session ≡ find (touches session) (step_writes g a.step)
  spoilt-here e = here ∙ find_left (touches session) (step_writes g a.step) _ e

  -- it does not
  pub spoilt-later : find (touches session) (step_writes g a.step) ≡ None → spoiler g (drop i steps) session ≡ spoiler (after_step g a.step) (drop (i + 1) steps) session
  spoilt-later e = here ∙ find_right (touches session) (step_writes g a.step) _ e

-- the vertices after steps that spoil nothing, together with those that the session creates
pub count-with : (g : ProtectionGraph) (committed session : List Answered) → IsDistinct bytes_eq g.vertices → spoiler g committed session ≡ None → AreAnswers g session
    → name_count ((after_steps g committed).vertices ++ creates g session) ≡ length (after_steps g committed).vertices + count_by tells_creation session
count-with g committed session d e h =
    let n = name_count-apart g committed session d e in
    let m = ap length (vertices-steps g committed) ∙ length-append g.vertices (creates g committed) in
    let t = creates-told g session h in
    omega (arith, n, m, t)

pub none_of : (o : Option Name) → is_some o ≡ false → o ≡ None
none_of None e = refl
none_of (Some v) e = absurd (true≢false e)

-- whether the graph after the record has room tells whether the record crowds the session
pub crowds-with : (g after : ProtectionGraph) (committed session : List Answered) → IsDistinct bytes_eq g.vertices → spoiler g committed session ≡ None → AreAnswers g session → after ≡ after_steps g committed
    → (most_vertices < length after.vertices + count_by tells_creation session → IsCrowded g committed session) × (IsCrowded g committed session → most_vertices < length after.vertices + count_by tells_creation session)
crowds-with g after committed session d e h is =
    let n = count-with g committed session d e h in
    let v = ap (λ (g : ProtectionGraph). length g.vertices) is in
    (λ lt. omega (arith, n, v, lt), λ lt. omega (arith, n, v, lt))

-- what a draft without rows is before the first step
pub record Watched (base : Entries) (committed session : List Answered) (draft : Changes) : Type 0 where
  pub fits : Fits base draft
  pub stands : drafted base draft ≡ after_steps (graph_of base) (take 0 committed)
  pub rows : (v : Name) → is_known draft.0 v ≡ list_any (same_name v) (writes (graph_of base) (take 0 committed))
  pub left : spoiler (drafted base draft) (drop 0 committed) session ≡ spoiler (graph_of base) committed session

pub watched-none : (base : Entries) (committed session : List Answered) → Watched base committed session ([], [])
watched-none base committed session = record { fits = fits-none base; stands = refl; rows = λ v. refl; left = refl }
