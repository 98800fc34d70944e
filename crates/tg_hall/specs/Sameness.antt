-- `==` holds of the same steps, replies and records alone.
use Rattle.std.specs.Prelude.{◌≡◌, List, [], ◌∷◌, Bool, true, false, ◌&&◌, ◌↔◌, IsTrue, refl, bytes_eq}
use Rattle.std.proofs.Common.{rules, nat_eq, subst}
use Rattle.std.proofs.lemmas.Bool.{eq-eqb, eqb-true}
use Rattle.std.specs.Cmp.Lexicographic.{pointwise}
use Rattle.tg_names.specs.contracts.right_sets.RightPartialEq.TheImpl as right
use Rattle.tg_names.specs.contracts.right_sets.RightsPartialEq.TheImpl as rights
use Rattle.tg_graph.specs.contracts.rules.RulePartialEq.TheImpl as rule
use Rattle.tg_graph.specs.contracts.rules.RefusalPartialEq.TheImpl as refusal
use Rattle.tg_graph.specs.contracts.session.StepPartialEq.TheImpl as step
use Rattle.tg_graph.specs.contracts.session.ReplyPartialEq.TheImpl as reply
use Rattle.tg_hall.specs.declared.answers.Answered.{Answered}
use Rattle.tg_hall.specs.declared.records.Record.{Record}
use Rattle.tg_hall.specs.contracts.answers.AnsweredPartialEq.TheImpl as answered
use Rattle.tg_hall.specs.contracts.records.RecordPartialEq.TheImpl as stored

-- a test that holds of the same values alone
abbrev pub Exact : {X : Type 0} → (X → X → Bool) → Type 0
Exact {X} eq = (a b : X) → IsTrue (eq a b) ↔ (a ≡ b)

pub name_same : Exact bytes_eq
name_same a b = search rules

pub right_same : Exact right.ghosts.eq
right_same a b = search rules

pub rights_same : Exact rights.ghosts.eq
rights_same a b = search rules

pub refusal_same : Exact refusal.ghosts.eq
refusal_same a b = search rules

pub rule_same : Exact rule.ghosts.eq
rule_same a b = search rules

pub step_same : Exact step.ghosts.eq
step_same a b = search rules

pub reply_same : Exact reply.ghosts.eq
reply_same a b = search rules

both : (a b : Bool) → (a && b) ≡ true → (a ≡ true) × (b ≡ true)
both true b e = (refl, e)
both false b e = cc

join : (a b : Bool) → a ≡ true → b ≡ true → (a && b) ≡ true
join true b e f = f
join false b e f = cc

pub answered_same : Exact answered.ghosts.eq
answered_same a b = (
  (λ e. let p = both (step.ghosts.eq a.step b.step) (reply.ghosts.eq a.reply b.reply) e in (λ i. record { step = (step_same a.step b.step).0 p.0 i; reply = (reply_same a.reply b.reply).0 p.1 i })),
  (λ e. subst (λ (x : Answered). IsTrue (answered.ghosts.eq a x)) e (join (step.ghosts.eq a.step a.step) (reply.ghosts.eq a.reply a.reply) ((step_same a.step a.step).1 refl) ((reply_same a.reply a.reply).1 refl))),
)

steps_to : (xs ys : List Answered) → pointwise answered.ghosts.eq xs ys ≡ true → xs ≡ ys
steps_to [] [] e = refl
steps_to [] (y ∷ ys) e = cc
steps_to (x ∷ xs) [] e = cc
steps_to (x ∷ xs) (y ∷ ys) e =
    let p = both (answered.ghosts.eq x y) (pointwise answered.ghosts.eq xs ys) e in (λ i. (answered_same x y).0 p.0 i ∷ steps_to xs ys p.1 i)

steps_of : (xs : List Answered) → pointwise answered.ghosts.eq xs xs ≡ true
steps_of [] = refl
steps_of (x ∷ xs) = join (answered.ghosts.eq x x) (pointwise answered.ghosts.eq xs xs) ((answered_same x x).1 refl) (steps_of xs)

pub record_same : Exact stored.ghosts.eq
record_same a b = (
  (λ e.
      let p = both (nat_eq a.seat b.seat) (nat_eq a.number b.number && pointwise answered.ghosts.eq a.steps b.steps) e in
      let q = both (nat_eq a.number b.number) (pointwise answered.ghosts.eq a.steps b.steps) p.1 in
      (λ i. record { seat = eqb-true a.seat b.seat p.0 i; number = eqb-true a.number b.number q.0 i; steps = steps_to a.steps b.steps q.1 i })),
  (λ e.
      subst (λ (x : Record). IsTrue (stored.ghosts.eq a x)) e
      (join (nat_eq a.seat a.seat) (nat_eq a.number a.number && pointwise answered.ghosts.eq a.steps a.steps) (eq-eqb a.seat a.seat refl)
      (join (nat_eq a.number a.number) (pointwise answered.ghosts.eq a.steps a.steps) (eq-eqb a.number a.number refl) (steps_of a.steps)))),
)
