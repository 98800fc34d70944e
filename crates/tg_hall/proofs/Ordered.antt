-- Replays of lists of steps and of records.
use Rattle.std.proofs.Common.{◌≡◌, ℕ, zero, suc, ◌+◌, ◌<◌, List, [], ◌∷◌, ◌++◌, take, length, get_or, Some, refl, sym, ap, subst, ◌∙◌, arith}
use Rattle.std.specs.Prelude.{slice_get}
use Rattle.std.proofs.lemmas.List.{take_more}
use Rattle.std.proofs.lemmas.Option.{slice_get_within, get_or_from_slice_get}
use Rattle.tg_graph.specs.Graphs.{ProtectionGraph}
use Rattle.tg_hall.specs.declared.answers.Answered.{Answered}
use Rattle.tg_hall.specs.declared.records.Record.{Record}
use Rattle.tg_hall.specs.Answers.{IsAnswer, AreAnswers, after_step, after_steps}
use Rattle.tg_hall.specs.Histories.{replay, IsLegal}

pub after_steps-push : (g : ProtectionGraph) (steps : List Answered) (a : Answered) → after_steps g (steps ++ a ∷ []) ≡ after_step (after_steps g steps) a.step
after_steps-push g [] a = refl
after_steps-push g (b ∷ rest) a = after_steps-push (after_step g b.step) rest a

pub AreAnswers-push : (g : ProtectionGraph) (steps : List Answered) (a : Answered) → AreAnswers g steps → IsAnswer (after_steps g steps) a.step a.reply → AreAnswers g (steps ++ a ∷ [])
AreAnswers-push g [] a h i = (i, tt)
AreAnswers-push g (b ∷ rest) a h i = (h.0, AreAnswers-push (after_step g b.step) rest a h.1 i)

-- one step more of a list
pub after_steps-more : (g : ProtectionGraph) (steps : List Answered) (i : ℕ) (a : Answered) → i < length steps → a ≡ get_or steps i a → after_steps g (take (i + 1) steps) ≡ after_step (after_steps g (take i steps)) a.step
after_steps-more g steps i a lt is =
    ap (after_steps g) (take_more steps i a lt ∙ ap (λ b. take i steps ++ b ∷ []) (sym is)) ∙ after_steps-push g (take i steps) a

pub replay-push : (g : ProtectionGraph) (history : List Record) (r : Record) → replay g (history ++ r ∷ []) ≡ after_steps (replay g history) r.steps
replay-push g [] r = refl
replay-push g (x ∷ rest) r = replay-push (after_steps g x.steps) rest r

pub replay-append : (g : ProtectionGraph) (history rest : List Record) → replay g (history ++ rest) ≡ replay (replay g history) rest
replay-append g [] rest = refl
replay-append g (x ∷ history) rest = replay-append (after_steps g x.steps) history rest

pub take_next : (history : List Record) (i : ℕ) (r : Record) → slice_get history i ≡ Some r → take (i + 1) history ≡ take i history ++ r ∷ []
take_next history i r e = take_more history i r (slice_get_within history i r e) ∙ ap (λ b. take i history ++ b ∷ []) (get_or_from_slice_get history i r r e)

-- one record more of a history
pub replay-next : (g : ProtectionGraph) (history : List Record) (i : ℕ) (r : Record) → slice_get history i ≡ Some r → replay g (take (i + 1) history) ≡ after_steps (replay g (take i history)) r.steps
replay-next g history i r e = ap (replay g) (take_next history i r e) ∙ replay-push g (take i history) r

pub legal-push : (g : ProtectionGraph) (history : List Record) (r : Record) → IsLegal g history → AreAnswers (replay g history) r.steps → IsLegal g (history ++ r ∷ [])
legal-push g [] r h a = (a, tt)
legal-push g (x ∷ rest) r h a = (h.0, legal-push (after_steps g x.steps) rest r h.1 a)

-- the record at a place of a legal history is true there
-- what follows is legal where the first records lead
pub legal-rest : (g : ProtectionGraph) (history rest : List Record) → IsLegal g (history ++ rest) → IsLegal (replay g history) rest
legal-rest g [] rest h = h
legal-rest g (x ∷ history) rest h = legal-rest (after_steps g x.steps) history rest h.1

pub legal-at : (g : ProtectionGraph) (history : List Record) (i : ℕ) (r : Record) → IsLegal g history → slice_get history i ≡ Some r → AreAnswers (replay g (take i history)) r.steps
legal-at g [] i r h e = absurd (omega (arith, slice_get_within [] i r e))
legal-at g (x ∷ rest) zero r h e = subst (λ b. AreAnswers g b.steps) (get_or_from_slice_get (x ∷ rest) zero r r e) h.0
legal-at g (x ∷ rest) (suc i) r h e = legal-at (after_steps g x.steps) rest i r h.1 e
