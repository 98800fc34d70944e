-- A record that spoils no session and crowds none leaves its replies true.
use Rattle.std.proofs.Common.{◌≡◌, ◌+◌, ◌≤◌, Bool, true, false, ◌||◌, List, [], ◌∷◌, ◌++◌, length, Option, None, Some, is_none, is_some, append_assoc, refl, sym, ap, subst, ◌∙◌, arith, true≢false, bytes_eq}
use Rattle.std.specs.Prelude.{if◌then◌else◌}
use Rattle.std.specs.List.{list_any, IsDistinct, AllByRecursion}
use Rattle.std.proofs.lemmas.List.{length-append, append-nil}
use Rattle.std.proofs.lemmas.List.Folds.{list_any-append}
use Rattle.std.proofs.lemmas.Map.Keys.{IsDistinct-push}
use Rattle.std.proofs.lemmas.Bool.{or_left, or_right}
use Rattle.std.specs.Cmp.Lexicographic.{nat_list_eq_equiv}
use Rattle.tg_graph.specs.declared.rules.Rule.TheVariants.{Take, Grant, Create, Remove}
use Rattle.tg_graph.specs.declared.rules.Refusal.{Refusal}
use Rattle.tg_graph.specs.declared.rules.Refusal.TheVariants.{Unknown, Taken}
use Rattle.tg_graph.specs.declared.session.Step.{Step}
use Rattle.tg_graph.specs.declared.session.Step.TheVariants.{Do, Holds, Share}
use Rattle.tg_names.specs.Names.{Name, same_name}
use Rattle.tg_graph.specs.Graphs.{ProtectionGraph, has_vertex}
use Rattle.tg_graph.specs.Rules.{refusal_of, refused_if}
use Rattle.tg_graph.specs.Limits.{most_vertices}
use Rattle.tg_hall.specs.declared.answers.Answered.{Answered}
use Rattle.tg_hall.specs.Answers.{AreAnswers, session_refusal, lack_of_room, or_else, after_step, after_steps}
use Rattle.tg_hall.specs.Touches.{writes, step_touches, reply_touches, touches, step_creates, creates, spoiler, name_count}
use Rattle.tg_islands.proofs.NameTests.{same_refl}
use Rattle.tg_hall.proofs.Agreement.{Agree, AlikeAlong, agree_self, apart_find, untouched-steps, vertices-step, vertices-steps, keeps}

-- ---- lists without repeats
none_equal : (v : Name) (vs : List Name) → AllByRecursion (λ w. bytes_eq v w ≡ false) vs → list_any (same_name v) vs ≡ false
none_equal v [] h = refl
none_equal v (w ∷ ws) h = ap (λ b. b || list_any (same_name v) ws) h.0 ∙ none_equal v ws h.1

pub name_count-distinct : (vs : List Name) → IsDistinct bytes_eq vs → name_count vs ≡ length vs
unfolding IsDistinct
name_count-distinct [] h = refl
name_count-distinct (v ∷ vs) h =
    ap (λ b. if b then name_count vs else name_count vs + 1) (none_equal v vs h.0) ∙ (let e = name_count-distinct vs h.1 in omega (arith, e))

-- ---- created vertices
or_else_none : (r later : Option Refusal) → is_none (or_else r later) ≡ true → r ≡ None
or_else_none None later e = refl
or_else_none (Some refusal) later e = absurd (true≢false (sym e))

fresh_of : (a b : Bool) (x n : Name) → refused_if a (Unknown x) (refused_if b (Taken n) None) ≡ None → b ≡ false
fresh_of true b x n e = absurd (true≢false (ap is_some e))
fresh_of false true x n e = absurd (true≢false (ap is_some e))
fresh_of false false x n e = refl

-- a vertex that is created was none before
created_fresh : (g : ProtectionGraph) (x n : Name) (s : _) → is_none (session_refusal g (Create x n s)) ≡ true → has_vertex g n ≡ false
unfolding refusal_of
created_fresh g x n s e = fresh_of _ (has_vertex g n) x n (or_else_none (refusal_of g (Create x n s)) (lack_of_room g (Create x n s)) e)

-- the names of a list are among the vertices exactly where the session touches them
abbrev Same : (Name → Bool) → ProtectionGraph → List Name → Type 0
Same test g names = (v : Name) → test v ≡ true → list_any (same_name v) names ≡ has_vertex g v

same_push : (g : ProtectionGraph) (test : Name → Bool) (names more : List Name) (after : ProtectionGraph) → Same test g names → after.vertices ≡ g.vertices ++ more → Same test after (names ++ more)
same_push g test names more after h e v t =
    list_any-append (same_name v) names more ∙ ap (λ b. b || list_any (same_name v) more) (h v t)
    ∙ sym (ap (list_any (same_name v)) e ∙ list_any-append (same_name v) g.vertices more)

module _ (test : Name → Bool) where
  step_distinct : (g : ProtectionGraph) (names : List Name) (step : Step) → Same test g names → ((v : Name) → step_touches step v ≡ true → test v ≡ true) → IsDistinct bytes_eq names → IsDistinct bytes_eq (names ++ step_creates g step)
  step_distinct g names (Do (Create x n s)) h t d = by (is_none (session_refusal g (Create x n s))) refl
    where
      by : (b : Bool) → is_none (session_refusal g (Create x n s)) ≡ b → IsDistinct bytes_eq (names ++ (if b then n ∷ [] else []))
      by true e = IsDistinct-push nat_list_eq_equiv names n d (h n (t n (or_right (same_name n x) (same_name n n) (same_refl n))) ∙ created_fresh g x n s e)
      by false e = subst (IsDistinct bytes_eq) (sym (append-nil names)) d
  step_distinct g names (Do (Take x y z s)) h t d = subst (IsDistinct bytes_eq) (sym (append-nil names)) d
  step_distinct g names (Do (Grant x y z s)) h t d = subst (IsDistinct bytes_eq) (sym (append-nil names)) d
  step_distinct g names (Do (Remove x y s)) h t d = subst (IsDistinct bytes_eq) (sym (append-nil names)) d
  step_distinct g names (Holds right x y) h t d = subst (IsDistinct bytes_eq) (sym (append-nil names)) d
  step_distinct g names (Share right x y) h t d = subst (IsDistinct bytes_eq) (sym (append-nil names)) d

  -- a list with the vertices that a session creates has no repeats
  distinct_with : (g : ProtectionGraph) (names : List Name) (steps : List Answered) → Same test g names → ((v : Name) → touches steps v ≡ true → test v ≡ true) → IsDistinct bytes_eq names → IsDistinct bytes_eq (names ++ creates g steps)
  distinct_with g names [] h t d = subst (IsDistinct bytes_eq) (sym (append-nil names)) d
  distinct_with g names (a ∷ rest) h t d =
      subst (IsDistinct bytes_eq) (append_assoc names (step_creates g a.step) (creates (after_step g a.step) rest))
      (distinct_with (after_step g a.step) (names ++ step_creates g a.step) rest
      (same_push g test names (step_creates g a.step) (after_step g a.step) h (vertices-step g a.step))
      (λ v k. t v (or_right (step_touches a.step v || reply_touches a.reply v) (touches rest v) k))
      (step_distinct g names a.step h (λ v k. t v (or_left (step_touches a.step v || reply_touches a.reply v) (touches rest v) (or_left (step_touches a.step v) (reply_touches a.reply v) k))) d))

pub distinct_after : (g : ProtectionGraph) (steps : List Answered) → IsDistinct bytes_eq g.vertices → IsDistinct bytes_eq (after_steps g steps).vertices
distinct_after g steps d = subst (IsDistinct bytes_eq) (sym (vertices-steps g steps)) (distinct_with (λ v. true) g g.vertices steps (λ v t. refl) (λ v t. refl) d)

module _ (g : ProtectionGraph) (committed session : List Answered) (d : IsDistinct bytes_eq g.vertices) (apart : spoiler g committed session ≡ None) where
  agree : Agree (touches session) g (after_steps g committed)
  agree = untouched-steps (touches session) g g committed (agree_self (touches session) g) (apart_find (touches session) (writes g committed) apart)

  -- where the record spoils nothing, the vertices of both are as many as those of each together
  pub name_count-apart : name_count ((after_steps g committed).vertices ++ creates g session) ≡ length g.vertices + length (creates g committed) + length (creates g session)
  name_count-apart =
      let there = distinct_with (touches session) g (after_steps g committed).vertices session (λ v t. sym (agree.known v t)) (λ v t. t) (distinct_after g committed d) in
      let e = name_count-distinct ((after_steps g committed).vertices ++ creates g session) there in
      let n = length-append (after_steps g committed).vertices (creates g session) in
      let m = ap length (vertices-steps g committed) ∙ length-append g.vertices (creates g committed) in
      omega (arith, e, n, m)

  -- the session does the same after the record
  pub alike-clear : name_count ((after_steps g committed).vertices ++ creates g session) ≤ most_vertices → AreAnswers g session → AlikeAlong (touches session) g (after_steps g committed) session
  alike-clear fit h =
      let m = ap length (vertices-steps g committed) ∙ length-append g.vertices (creates g committed) in
      keeps (touches session) g (after_steps g committed) session agree (λ u k. k) (omega (arith, m)) (omega (arith, m, name_count-apart, fit)) h
