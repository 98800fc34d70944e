-- What true replies tell: which rules were accepted.
use Rattle.std.proofs.Common.{◌≡◌, ℕ, ◌+◌, Bool, true, false, List, [], ◌∷◌, ◌++◌, length, Option, None, Some, is_none, refl, sym, ap, subst, ◌∙◌, arith}
use Rattle.std.specs.Prelude.{count_by, if◌then◌else◌}
use Rattle.std.proofs.lemmas.List.{length-append}
use Rattle.std.proofs.lemmas.Bool.{or_parts}
use Rattle.std.proofs.lemmas.List.Recursion.{is_count_by}
use Rattle.std.specs.List.{list_any}
use Rattle.tg_graph.specs.declared.rules.Rule.TheVariants.{Take, Grant, Create, Remove}
use Rattle.tg_graph.specs.declared.rules.Refusal.{Refusal}
use Rattle.tg_graph.specs.declared.session.Step.{Step}
use Rattle.tg_graph.specs.declared.session.Step.TheVariants.{Do, Holds, Share}
use Rattle.tg_graph.specs.declared.session.Reply.{Reply}
use Rattle.tg_graph.specs.declared.session.Reply.TheVariants.{Done}
use Rattle.tg_names.specs.Names.{Name}
use Rattle.tg_graph.specs.Graphs.{ProtectionGraph}
use Rattle.tg_graph.specs.Rules.{after}
use Rattle.tg_graph.specs.Drafts.{written_by}
use Rattle.tg_hall.specs.declared.answers.Answered.{Answered}
use Rattle.tg_hall.specs.Answers.{IsAnswer, AreAnswers, session_refusal, reply_unless, after_step, after_steps}
use Rattle.tg_hall.specs.Touches.{step_writes, writes, step_creates, creates}
use Rattle.tg_hall.specs.Told.{is_done, told_writes, all_told_writes, tells_creation, tells_change}

-- a true reply to a rule is Done exactly if the rule was accepted
pub done-accepted : (refusal : Option Refusal) (reply : Reply) → reply ≡ reply_unless refusal Done → is_done reply ≡ is_none refusal
done-accepted None reply e = ap is_done e
done-accepted (Some refusal) reply e = ap is_done e

told_writes-step : (g : ProtectionGraph) (step : Step) (reply : Reply) → IsAnswer g step reply → step_writes g step ≡ told_writes step reply
told_writes-step g (Do rule) reply h = ap (λ b. if b then written_by rule else []) (sym (done-accepted (session_refusal g rule) reply h))
told_writes-step g (Holds right x y) reply h = refl
told_writes-step g (Share right x y) reply h = refl

-- the names that steps write are those of the rules that were answered Done
pub writes-told : (g : ProtectionGraph) (steps : List Answered) → AreAnswers g steps → writes g steps ≡ all_told_writes steps
writes-told g [] h = refl
writes-told g (a ∷ rest) h =
    ap (λ vs. vs ++ writes (after_step g a.step) rest) (told_writes-step g a.step a.reply h.0)
    ∙ ap (λ vs. told_writes a.step a.reply ++ vs) (writes-told (after_step g a.step) rest h.1)

length_if : (b : Bool) (n : Name) → length (if b then n ∷ [] else []) ≡ (if b then 1 else 0)
length_if true n = refl
length_if false n = refl

creates-step : (g : ProtectionGraph) (step : Step) (reply : Reply) → IsAnswer g step reply → length (step_creates g step) ≡ (if tells_creation (record { step = step; reply = reply }) then 1 else 0)
creates-step g (Do (Create x n s)) reply h =
    length_if (is_none (session_refusal g (Create x n s))) n ∙ ap (λ b. if b then 1 else 0) (sym (done-accepted (session_refusal g (Create x n s)) reply h))
creates-step g (Do (Take x y z s)) reply h = refl
creates-step g (Do (Grant x y z s)) reply h = refl
creates-step g (Do (Remove x y s)) reply h = refl
creates-step g (Holds right x y) reply h = refl
creates-step g (Share right x y) reply h = refl

-- how many creations were answered Done
creation_count : List Answered → ℕ
creation_count [] = 0
creation_count (a ∷ rest) = if tells_creation a then 1 + creation_count rest else creation_count rest

plus_if : (b : Bool) (n : ℕ) → (if b then 1 else 0) + n ≡ (if b then 1 + n else n)
plus_if true n = refl
plus_if false n = omega arith

creates-counted : (g : ProtectionGraph) (steps : List Answered) → AreAnswers g steps → length (creates g steps) ≡ creation_count steps
unfolding creation_count
creates-counted g [] h = refl
creates-counted g (a ∷ rest) h =
    length-append (step_creates g a.step) (creates (after_step g a.step) rest)
    ∙ ap (λ n. n + length (creates (after_step g a.step) rest)) (creates-step g a.step a.reply h.0)
    ∙ ap (λ n. (if tells_creation a then 1 else 0) + n) (creates-counted (after_step g a.step) rest h.1)
    ∙ plus_if (tells_creation a) (creation_count rest)

count-is : (steps : List Answered) → creation_count steps ≡ count_by tells_creation steps
unfolding creation_count
count-is = is_count_by creation_count tells_creation refl (λ a rest. refl)

-- as many vertices are created as creations were answered Done
pub creates-told : (g : ProtectionGraph) (steps : List Answered) → AreAnswers g steps → length (creates g steps) ≡ count_by tells_creation steps
creates-told g steps h = creates-counted g steps h ∙ count-is steps

unchanged-step : (g : ProtectionGraph) (step : Step) (reply : Reply) → IsAnswer g step reply → tells_change (record { step = step; reply = reply }) ≡ false → after_step g step ≡ g
unchanged-step g (Do rule) reply h e =
    ap (λ b. if b then after g rule else g) (sym (done-accepted (session_refusal g rule) reply h) ∙ e)
unchanged-step g (Holds right x y) reply h e = refl
unchanged-step g (Share right x y) reply h e = refl

-- true steps none of which was carried out change nothing
pub unchanged-told : (g : ProtectionGraph) (steps : List Answered) → AreAnswers g steps → list_any tells_change steps ≡ false → after_steps g steps ≡ g
unchanged-told g [] h e = refl
unchanged-told g (a ∷ rest) h e =
    let same = unchanged-step g a.step a.reply h.0 (or_parts (tells_change a) (list_any tells_change rest) e).0 in
    ap (λ k. after_steps k rest) same
    ∙ unchanged-told g rest (subst (λ k. AreAnswers k rest) same h.1) (or_parts (tells_change a) (list_any tells_change rest) e).1
