-- Two graphs that agree on the names that a session touches give it the same replies.
use Rattle.std.proofs.Common.{◌≡◌, ℕ, ◌+◌, ◌≤◌, Bool, true, false, ◌&&◌, ◌||◌, not, IsTrue, List, [], ◌∷◌, ◌++◌, length, Option, None, Some, is_none, is_some, append_assoc, refl, sym, ap, subst, ◌∙◌, arith, true≢false}
use Rattle.std.specs.Prelude.{find, if◌then◌else◌, nat_le, ⊤}
use Rattle.std.specs.List.{list_any}
use Rattle.std.proofs.lemmas.List.{length-append, append-nil}
use Rattle.std.proofs.lemmas.List.Folds.{list_any-append}
use Rattle.std.proofs.lemmas.Bool.{or_left, or_right, or_parts}
use Rattle.std.proofs.Math.Bool.{or-false, and-true}
use Rattle.std.proofs.lemmas.Bool.Decides.{nat_tests}
use Rattle.tg_names.specs.declared.right_sets.Right.{Right}
use Rattle.tg_names.specs.declared.right_sets.Right.TheVariants.{T, G}
use Rattle.tg_names.specs.declared.right_sets.Rights.{Rights}
use Rattle.tg_graph.specs.declared.rules.Rule.{Rule}
use Rattle.tg_graph.specs.declared.rules.Rule.TheVariants.{Take, Grant, Create, Remove}
use Rattle.tg_graph.specs.declared.rules.Refusal.{Refusal}
use Rattle.tg_graph.specs.declared.rules.Refusal.TheVariants.{Unknown, Taken, Empty, NoTake, NoGrant, Full}
use Rattle.tg_graph.specs.declared.session.Step.{Step}
use Rattle.tg_graph.specs.declared.session.Step.TheVariants.{Do, Holds, Share}
use Rattle.tg_graph.specs.declared.session.Reply.{Reply}
use Rattle.tg_graph.specs.declared.session.Reply.TheVariants.{Done, Yes, No, Refused}
use Rattle.tg_names.specs.Sets.{member, rights_where, is_empty_set}
use Rattle.tg_names.specs.Names.{Name, same_name}
use Rattle.tg_graph.specs.Graphs.{ProtectionGraph, SameGraph, has_vertex}
use Rattle.tg_graph.specs.Rules.{refusal_of, after, unknown, refused_if, not_held, with_edge, without_edge}
use Rattle.tg_graph.specs.RuleLists.{AllAccepted, after_all, CanShare}
use Rattle.tg_rows.proofs.Rows.{same_bytes}
use Rattle.tg_graph.proofs.Same.{refusal-same, after-same}
use Rattle.tg_islands.proofs.NameTests.{same_refl}
use Rattle.tg_graph.specs.Limits.{most_vertices}
use Rattle.tg_graph.specs.Drafts.{written_by}
use Rattle.tg_hall.specs.declared.answers.Answered.{Answered}
use Rattle.tg_hall.specs.Answers.{IsAnswer, AreAnswers, session_refusal, lack_of_room, or_else, unknown_of_two, reply_unless, after_step, after_steps}
use Rattle.tg_hall.specs.Touches.{step_writes, writes, step_touches, reply_touches, touches, step_creates, creates}

-- the rows of the names that pass the test are the same, each of them is a vertex of both or of none, and each vertex of g is one of h
pub record Agree (test : Name → Bool) (g h : ProtectionGraph) : Type 0 where
  pub rows : (u : Name) → test u ≡ true → (right : Right) (v : Name) → g.holds u right v ≡ h.holds u right v
  pub known : (u : Name) → test u ≡ true → has_vertex g u ≡ has_vertex h u
  pub grows : (u : Name) → has_vertex g u ≡ true → has_vertex h u ≡ true

pub agree_self : (test : Name → Bool) (g : ProtectionGraph) → Agree test g g
agree_self test g = record { rows = λ u t right v. refl; known = λ u t. refl; grows = λ u k. k }

-- ---- tests
or_mono : (a b c : Bool) → (a ≡ true → b ≡ true) → (a || c) ≡ true → (b || c) ≡ true
or_mono true b c m e = or_left b c (m refl)
or_mono false b c m e = or_right b c e

pub vertices-step : (g : ProtectionGraph) (step : Step) → (after_step g step).vertices ≡ g.vertices ++ step_creates g step
unfolding after
vertices-step g (Do (Take x y z s)) = by (is_none (session_refusal g (Take x y z s)))
  where
    by : (b : Bool) → (if b then after g (Take x y z s) else g).vertices ≡ g.vertices ++ []
    by true = sym (append-nil g.vertices)
    by false = sym (append-nil g.vertices)
vertices-step g (Do (Grant x y z s)) = by (is_none (session_refusal g (Grant x y z s)))
  where
    by : (b : Bool) → (if b then after g (Grant x y z s) else g).vertices ≡ g.vertices ++ []
    by true = sym (append-nil g.vertices)
    by false = sym (append-nil g.vertices)
vertices-step g (Do (Create x n s)) = by (is_none (session_refusal g (Create x n s)))
  where
    by : (b : Bool) → (if b then after g (Create x n s) else g).vertices ≡ g.vertices ++ (if b then n ∷ [] else [])
    by true = refl
    by false = sym (append-nil g.vertices)
vertices-step g (Do (Remove x y s)) = by (is_none (session_refusal g (Remove x y s)))
  where
    by : (b : Bool) → (if b then after g (Remove x y s) else g).vertices ≡ g.vertices ++ []
    by true = sym (append-nil g.vertices)
    by false = sym (append-nil g.vertices)
vertices-step g (Holds right x y) = sym (append-nil g.vertices)
vertices-step g (Share right x y) = sym (append-nil g.vertices)

-- the vertices after steps are those before and those that the steps create
pub vertices-steps : (g : ProtectionGraph) (steps : List Answered) → (after_steps g steps).vertices ≡ g.vertices ++ creates g steps
vertices-steps g [] = sym (append-nil g.vertices)
vertices-steps g (a ∷ rest) =
    vertices-steps (after_step g a.step) rest
    ∙ ap (λ vs. vs ++ creates (after_step g a.step) rest) (vertices-step g a.step)
    ∙ append_assoc g.vertices (step_creates g a.step) (creates (after_step g a.step) rest)

-- ---- what writes no name that passes the test
pub Apart : (Name → Bool) → List Name → Type 0
Apart test [] = ⊤
Apart test (v ∷ vs) = (test v ≡ false) × Apart test vs

pub apart_find : (test : Name → Bool) (vs : List Name) → find test vs ≡ None → Apart test vs
unfolding Apart
apart_find test [] e = tt
apart_find test (v ∷ vs) e = by (test v) refl e (apart_find test vs)
  where
    by : (b : Bool) → test v ≡ b → (if b then Some v else find test vs) ≡ None → (find test vs ≡ None → Apart test vs) → (test v ≡ false) × Apart test vs
    by true t e f = absurd (true≢false (ap is_some e))
    by false t e f = (t, f e)

apart_left : (test : Name → Bool) (vs ws : List Name) → Apart test (vs ++ ws) → Apart test vs
unfolding Apart
apart_left test [] ws p = tt
apart_left test (v ∷ vs) ws p = (p.0, apart_left test vs ws p.1)

apart_right : (test : Name → Bool) (vs ws : List Name) → Apart test (vs ++ ws) → Apart test ws
unfolding Apart
apart_right test [] ws p = p
apart_right test (v ∷ vs) ws p = apart_right test vs ws p.1

-- a name that passes the test is not among them
pub apart-among : (test : Name → Bool) (vs : List Name) (v : Name) → Apart test vs → test v ≡ true → list_any (same_name v) vs ≡ false
unfolding Apart
apart-among test [] v p t = refl
apart-among test (w ∷ vs) v p t = by (same_name v w) refl (apart-among test vs v p.1 t)
  where
    by : (b : Bool) → same_name v w ≡ b → list_any (same_name v) vs ≡ false → (b || list_any (same_name v) vs) ≡ false
    by true e h = absurd (true≢false (sym t ∙ ap test (same_bytes v w e) ∙ p.0))
    by false e h = h

-- a name is apart from a list that has it not
pub apart-none : (v : Name) (vs : List Name) → list_any (same_name v) vs ≡ false → Apart (same_name v) vs
unfolding Apart
apart-none v [] h = tt
apart-none v (w ∷ vs) h = let p = or_parts (same_name v w) (list_any (same_name v) vs) h in (p.0, apart-none v vs p.1)

module _ (test : Name → Bool) where
  other : (u x : Name) → test u ≡ true → test x ≡ false → same_name u x ≡ false
  other u x t f = by (same_name u x) refl
    where
      by : (b : Bool) → same_name u x ≡ b → b ≡ false
      by true e = absurd (true≢false (sym t ∙ ap test (same_bytes u x e) ∙ f))
      by false e = refl

  module _ (g k : ProtectionGraph) (a : Agree test g k) where
    rows-with : (x z : Name) (s : Rights) → test x ≡ false → (u : Name) → test u ≡ true → (right : Right) (v : Name) → g.holds u right v ≡ with_edge k.holds x z s u right v
    rows-with x z s f u t right v =
        a.rows u t right v
        ∙ sym (ap (λ b. k.holds u right v || (b && same_name v z && member s right)) (other u x t f) ∙ or-false (k.holds u right v))

    rows-without : (x z : Name) (s : Rights) → test x ≡ false → (u : Name) → test u ≡ true → (right : Right) (v : Name) → g.holds u right v ≡ without_edge k.holds x z s u right v
    rows-without x z s f u t right v =
        a.rows u t right v
        ∙ sym (ap (λ b. k.holds u right v && not (b && same_name v z && member s right)) (other u x t f) ∙ and-true (k.holds u right v))

    known-with : (n : Name) → test n ≡ false → (u : Name) → test u ≡ true → has_vertex g u ≡ list_any (same_name u) (k.vertices ++ n ∷ [])
    known-with n f u t =
        a.known u t
        ∙ sym (list_any-append (same_name u) k.vertices (n ∷ []) ∙ ap (λ b. has_vertex k u || (b || false)) (other u n t f) ∙ or-false (has_vertex k u))

    grows-with : (n u : Name) → has_vertex g u ≡ true → list_any (same_name u) (k.vertices ++ n ∷ []) ≡ true
    grows-with n u e = list_any-append (same_name u) k.vertices (n ∷ []) ∙ or_left (has_vertex k u) (same_name u n || false) (a.grows u e)

    untouched-after : (rule : Rule) → Apart test (written_by rule) → Agree test g (after k rule)
    unfolding Apart after
    untouched-after (Take x y z s) p = record { rows = rows-with x z s p.0; known = a.known; grows = a.grows }
    untouched-after (Grant x y z s) p = record { rows = rows-with y z s p.0; known = a.known; grows = a.grows }
    untouched-after (Create x n s) p = record { rows = rows-with x n s p.0; known = known-with n p.1.0; grows = grows-with n }
    untouched-after (Remove x y s) p = record { rows = rows-without x y s p.0; known = a.known; grows = a.grows }

    untouched-step : (step : Step) → Apart test (step_writes k step) → Agree test g (after_step k step)
    untouched-step (Do rule) p = by (is_none (session_refusal k rule)) p
      where
        by : (b : Bool) → Apart test (if b then written_by rule else []) → Agree test g (if b then after k rule else k)
        by true p = untouched-after rule p
        by false p = a
    untouched-step (Holds right x y) p = a
    untouched-step (Share right x y) p = a

  pub untouched-steps : (g k : ProtectionGraph) (steps : List Answered) → Agree test g k → Apart test (writes k steps) → Agree test g (after_steps k steps)
  untouched-steps g k [] a p = a
  untouched-steps g k (b ∷ rest) a p =
      untouched-steps g (after_step k b.step) rest
      (untouched-step g k a b.step (apart_left test (step_writes k b.step) (writes (after_step k b.step) rest) p))
      (apart_right test (step_writes k b.step) (writes (after_step k b.step) rest) p)

-- ---- graphs that are the same can share the same
all_accepted-same : (g h : ProtectionGraph) → SameGraph g h → (rules : List Rule) → AllAccepted g rules → AllAccepted h rules
all_accepted-same g h s [] a = a
all_accepted-same g h s (rule ∷ rules) a =
    (a.0, sym (refusal-same g h s rule) ∙ a.1, all_accepted-same (after g rule) (after h rule) (after-same g h s rule) rules a.2)

after_all-same : (g h : ProtectionGraph) → SameGraph g h → (rules : List Rule) → SameGraph (after_all g rules) (after_all h rules)
after_all-same g h s [] = s
after_all-same g h s (rule ∷ rules) = after_all-same (after g rule) (after h rule) (after-same g h s rule) rules

can_share-same : (g h : ProtectionGraph) → SameGraph g h → (right : Right) (x y : Name) → CanShare g right x y → CanShare h right x y
can_share-same g h s right x y c =
    (c.0, all_accepted-same g h s c.0 c.1, subst IsTrue ((after_all-same g h s c.0).triples x right y) c.2)

same_back : (g h : ProtectionGraph) → SameGraph g h → SameGraph h g
same_back g h s = record { vertices = λ v. sym (s.vertices v); triples = λ u right v. sym (s.triples u right v) }

-- ---- one step of a session
module _ (test : Name → Bool) where
  -- a refusal for want of a vertex names one that passes the test
  Covers : Option Refusal → Type 0
  Covers r = (v : Name) → r ≡ Some (Unknown v) → test v ≡ true

  chain : (a b : Bool) (v : Name) (r r' : Option Refusal) → (a ≡ true → b ≡ true) → (test v ≡ true → a ≡ b) → Covers (refused_if (not a) (Unknown v) r) → (Covers r → r ≡ r') → refused_if (not a) (Unknown v) r ≡ refused_if (not b) (Unknown v) r'
  unfolding Covers
  chain true true v r r' m k c f = f c
  chain true false v r r' m k c f = absurd (true≢false (sym (m refl)))
  chain false b v r r' m k c f = ap (λ b. refused_if (not b) (Unknown v) r') (k (c v refl))

  module _ (g h : ProtectionGraph) (a : Agree test g h) where
    on : (v : Name) (r r' : Option Refusal) → Covers (unknown g v r) → (Covers r → r ≡ r') → unknown g v r ≡ unknown h v r'
    on v r r' = chain (has_vertex g v) (has_vertex h v) v r r' (a.grows v) (a.known v)

    refusal-agrees : (rule : Rule) → ((u : Name) → step_touches (Do rule) u ≡ true → test u ≡ true) → Covers (refusal_of g rule) → refusal_of g rule ≡ refusal_of h rule
    unfolding refusal_of
    refusal-agrees (Take x y z s) t c =
        let tx : test x ≡ true = t x (or_left (same_name x x) (same_name x y) (same_refl x)) in
        let ty : test y ≡ true = t y (or_right (same_name y x) (same_name y y) (same_refl y)) in
        on x _ _ c (λ c. on y _ _ c (λ c. on z _ _ c (λ c i. refused_if (is_empty_set s) Empty (refused_if (not (a.rows x tx T y i)) NoTake (not_held (rights_where (λ right. member s right && not (a.rows y ty right z i))))))))
    refusal-agrees (Grant x y z s) t c =
        let tx : test x ≡ true = t x (or_left (same_name x x) (same_name x y) (same_refl x)) in
        on x _ _ c (λ c. on y _ _ c (λ c. on z _ _ c (λ c i. refused_if (is_empty_set s) Empty (refused_if (not (a.rows x tx G y i)) NoGrant (not_held (rights_where (λ right. member s right && not (a.rows x tx right z i))))))))
    refusal-agrees (Create x n s) t c =
        let tn : test n ≡ true = t n (or_right (same_name n x) (same_name n n) (same_refl n)) in
        on x _ _ c (λ c i. refused_if (a.known n tn i) (Taken n) None)
    refusal-agrees (Remove x y s) t c = on x _ _ c (λ c. on y _ _ c (λ c. refl))

    room-agrees : (n : Name) (rg rh : Option Refusal) (lg lh : ℕ) → rg ≡ rh → lg ≤ lh
        → lh + length (if is_none (or_else rg (if nat_le most_vertices lg then Some Full else None)) then n ∷ [] else []) ≤ most_vertices
        → or_else rg (if nat_le most_vertices lg then Some Full else None) ≡ or_else rh (if nat_le most_vertices lh then Some Full else None)
    room-agrees n (Some r) rh lg lh e le fit = ap (λ o. or_else o (if nat_le most_vertices lh then Some Full else None)) e
    room-agrees n None rh lg lh e le fit = by (nat_le most_vertices lg) refl fit ∙ ap (λ o. or_else o (if nat_le most_vertices lh then Some Full else None)) e
      where
        by : (b : Bool) → nat_le most_vertices lg ≡ b → lh + length (if is_none (if b then Some Full else None) then n ∷ [] else []) ≤ most_vertices → (if b then Some Full else None) ≡ (if nat_le most_vertices lh then Some Full else None)
        by true q fit = let r : nat_le most_vertices lh ≡ true = grind (arith, nat_tests) in ap (λ b. if b then Some Full else None) (sym r)
        by false q fit = let r : nat_le most_vertices lh ≡ false = grind (arith, nat_tests) in ap (λ b. if b then Some Full else None) (sym r)

    session_refusal-agrees : (rule : Rule) → refusal_of g rule ≡ refusal_of h rule → length g.vertices ≤ length h.vertices → length h.vertices + length (step_creates g (Do rule)) ≤ most_vertices → session_refusal g rule ≡ session_refusal h rule
    session_refusal-agrees (Take x y z s) e le fit = ap (λ r. or_else r None) e
    session_refusal-agrees (Grant x y z s) e le fit = ap (λ r. or_else r None) e
    session_refusal-agrees (Create x n s) e le fit = room-agrees n (refusal_of g (Create x n s)) (refusal_of h (Create x n s)) (length g.vertices) (length h.vertices) e le fit
    session_refusal-agrees (Remove x y s) e le fit = ap (λ r. or_else r None) e

    after-agrees : (rule : Rule) → Agree test (after g rule) (after h rule)
    unfolding after
    after-agrees (Take x y z s) = record { rows = λ u t right v i. a.rows u t right v i || (same_name u x && same_name v z && member s right); known = a.known; grows = a.grows }
    after-agrees (Grant x y z s) = record { rows = λ u t right v i. a.rows u t right v i || (same_name u y && same_name v z && member s right); known = a.known; grows = a.grows }
    after-agrees (Create x n s) = record {
      rows = λ u t right v i. a.rows u t right v i || (same_name u x && same_name v n && member s right);
      known = λ u t. list_any-append (same_name u) g.vertices (n ∷ []) ∙ ap (λ b. b || (same_name u n || false)) (a.known u t) ∙ sym (list_any-append (same_name u) h.vertices (n ∷ []));
      grows = λ u e. list_any-append (same_name u) h.vertices (n ∷ []) ∙ or_mono (has_vertex g u) (has_vertex h u) (same_name u n || false) (a.grows u) (sym (list_any-append (same_name u) g.vertices (n ∷ [])) ∙ e);
    }
    after-agrees (Remove x y s) = record { rows = λ u t right v i. a.rows u t right v i && not (same_name u x && same_name v y && member s right); known = a.known; grows = a.grows }

    next-agrees : (rule : Rule) → session_refusal g rule ≡ session_refusal h rule → Agree test (after_step g (Do rule)) (after_step h (Do rule))
    next-agrees rule e = by (is_none (session_refusal g rule)) (is_none (session_refusal h rule)) (ap is_none e)
      where
        by : (b c : Bool) → b ≡ c → Agree test (if b then after g rule else g) (if c then after h rule else h)
        by true true e = after-agrees rule
        by true false e = absurd (true≢false e)
        by false true e = absurd (true≢false (sym e))
        by false false e = a

    creates-agrees : (rule : Rule) → session_refusal g rule ≡ session_refusal h rule → step_creates g (Do rule) ≡ step_creates h (Do rule)
    creates-agrees (Take x y z s) e = refl
    creates-agrees (Grant x y z s) e = refl
    creates-agrees (Create x n s) e = ap (λ r. if is_none r then n ∷ [] else []) e
    creates-agrees (Remove x y s) e = refl

    -- what one step does on both graphs
    record Alike (step : Step) (reply : Reply) : Type 0 where
      answer : IsAnswer h step reply
      agree : Agree test (after_step g step) (after_step h step)
      creations : step_creates g step ≡ step_creates h step
      writings : step_writes g step ≡ step_writes h step

    covers_reply : (reply : Reply) (r : Option Refusal) (other : Reply) → reply ≡ reply_unless r other → ((u : Name) → reply_touches reply u ≡ true → test u ≡ true) → Covers r
    unfolding Covers
    covers_reply reply r other e t v is =
        t v (ap (λ p. reply_touches p v) (e ∙ ap (λ r. reply_unless r other) is) ∙ same_refl v)

    alike : (step : Step) (reply : Reply) → ((u : Name) → step_touches step u ≡ true → test u ≡ true) → ((u : Name) → reply_touches reply u ≡ true → test u ≡ true)
        → length g.vertices ≤ length h.vertices → length h.vertices + length (step_creates g step) ≤ most_vertices → IsAnswer g step reply → Alike step reply
    unfolding Covers
    alike (Do rule) reply t tr le fit e =
        let covers : Covers (refusal_of g rule) = λ v is. covers_reply reply (session_refusal g rule) Done e tr v (ap (λ r. or_else r (lack_of_room g rule)) is) in
        let same : session_refusal g rule ≡ session_refusal h rule = session_refusal-agrees rule (refusal-agrees rule t covers) le fit in
        record { answer = e ∙ ap (λ r. reply_unless r Done) same; agree = next-agrees rule same; creations = creates-agrees rule same; writings = ap (λ r. if is_none r then written_by rule else []) same }
    alike (Holds right x y) reply t tr le fit e =
        let tx : test x ≡ true = t x (same_refl x) in
        let covers : Covers (unknown_of_two g x y) = covers_reply reply (unknown_of_two g x y) (if g.holds x right y then Yes else No) e tr in
        let same : unknown_of_two g x y ≡ unknown_of_two h x y = on x _ _ covers (λ c. on y _ _ c (λ c. refl)) in
        record { answer = e ∙ (λ i. reply_unless (same i) (if a.rows x tx right y i then Yes else No)); agree = a; creations = refl; writings = refl }
    alike (Share right x y) reply t tr le fit e = record { answer = by reply e; agree = a; creations = refl; writings = refl }
      where
        all : (u : Name) → test u ≡ true
        all u = t u refl

        s : SameGraph g h
        s = record { vertices = λ v. a.known v (all v); triples = λ u right v. a.rows u (all u) right v }

        same : unknown_of_two g x y ≡ unknown_of_two h x y
        same = λ i. refused_if (not (s.vertices x i)) (Unknown x) (refused_if (not (s.vertices y i)) (Unknown y) None)

        by : (reply : Reply) → IsAnswer g (Share right x y) reply → IsAnswer h (Share right x y) reply
        by Yes e = (sym same ∙ e.0, can_share-same g h s right x y e.1)
        by No e = (sym same ∙ e.0, λ c. e.1 (can_share-same h g (same_back g h s) right x y c))
        by (Refused refusal) e = sym same ∙ e
        by Done e = e

  -- what the steps of a session do on both graphs
  pub record AlikeAlong (g h : ProtectionGraph) (steps : List Answered) : Type 0 where
    pub answers : AreAnswers h steps
    pub agree : Agree test (after_steps g steps) (after_steps h steps)
    pub creations : creates g steps ≡ creates h steps
    pub writings : writes g steps ≡ writes h steps

  -- they do the same on a graph that agrees on what they touch and has room for what they create
  pub keeps : (g h : ProtectionGraph) (steps : List Answered) → Agree test g h → ((u : Name) → touches steps u ≡ true → test u ≡ true) → length g.vertices ≤ length h.vertices → length h.vertices + length (creates g steps) ≤ most_vertices → AreAnswers g steps → AlikeAlong g h steps
  keeps g h [] a t le fit e = record { answers = tt; agree = a; creations = refl; writings = refl }
  keeps g h (b ∷ rest) a t le fit e =
      let more = length-append (step_creates g b.step) (creates (after_step g b.step) rest) in
      let here : Alike g h a b.step b.reply =
      alike g h a b.step b.reply
      (λ u k. t u (or_left (step_touches b.step u || reply_touches b.reply u) (touches rest u) (or_left (step_touches b.step u) (reply_touches b.reply u) k)))
      (λ u k. t u (or_left (step_touches b.step u || reply_touches b.reply u) (touches rest u) (or_right (step_touches b.step u) (reply_touches b.reply u) k)))
      le (omega (arith, more)) e.0 in
      let lg = ap length (vertices-step g b.step) ∙ length-append g.vertices (step_creates g b.step) in
      let lh = ap length (vertices-step h b.step ∙ ap (λ vs. h.vertices ++ vs) (sym here.creations)) ∙ length-append h.vertices (step_creates g b.step) in
      let later : AlikeAlong (after_step g b.step) (after_step h b.step) rest =
      keeps (after_step g b.step) (after_step h b.step) rest here.agree
      (λ u k. t u (or_right (step_touches b.step u || reply_touches b.reply u) (touches rest u) k))
      (omega (arith, lg, lh)) (omega (arith, lh, more)) e.1 in
      record {
        answers = (here.answer, later.answers);
        agree = later.agree;
        creations = λ i. here.creations i ++ later.creations i;
        writings = λ i. here.writings i ++ later.writings i;
      }
