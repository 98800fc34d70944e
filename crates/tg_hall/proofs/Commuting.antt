-- A record that is clear of a session has no row in common with the session's draft: the draft stays as it is.
use Rattle.std.proofs.Common.{◌≡◌, Bool, true, false, ◌||◌, List, [], ◌∷◌, ◌++◌, Option, None, Some, append_assoc, refl, sym, ap, subst, ◌∙◌, arith, true≢false, bytes_eq}
use Rattle.std.specs.Prelude.{if◌then◌else◌, is_none, is_some}
use Rattle.std.specs.List.{list_any, IsDistinct}
use Rattle.std.specs.Map.{keys_of}
use Rattle.std.proofs.Math.Bool.{or-false, or-true}
use Rattle.std.proofs.lemmas.Bool.{or_left, or_right}
use Rattle.std.proofs.lemmas.List.{append_cancel_left}
use Rattle.std.proofs.lemmas.List.Folds.{list_any-append}
use Rattle.indexmap.specs.IndexSet.{insert_all, insert_key}
use Rattle.tg_names.specs.declared.right_sets.Right.{Right}
use Rattle.tg_graph.specs.declared.rules.Rule.{Rule}
use Rattle.tg_graph.specs.declared.rules.Rule.TheVariants.{Take, Grant, Create, Remove}
use Rattle.tg_graph.specs.declared.session.Step.{Step}
use Rattle.tg_graph.specs.declared.session.Step.TheVariants.{Do, Holds, Share}
use Rattle.tg_graph.specs.declared.rules.Refusal.{Refusal}
use Rattle.tg_graph.specs.Rules.{refusal_of}
use Rattle.tg_names.specs.Names.{Name, same_name}
use Rattle.tg_graph.specs.Graphs.{ProtectionGraph}
use Rattle.tg_rows.specs.Rows.{Entries, is_known}
use Rattle.tg_graph.specs.GraphOf.{graph_of}
use Rattle.tg_graph.specs.Drafts.{Changes, laid_over, Fits, AreApart, written_by}
use Rattle.tg_rows.proofs.Rows.{same_bytes}
use Rattle.tg_islands.proofs.NameTests.{same_refl}
use Rattle.tg_graph.proofs.DraftLaws.{apart_fit, holds-drafted, holds-left}
use Rattle.tg_hall.specs.declared.answers.Answered.{Answered}
use Rattle.tg_hall.specs.Answers.{AreAnswers, session_refusal, lack_of_room, or_else, after_step, after_steps}
use Rattle.tg_hall.specs.Touches.{step_writes, writes, step_touches, reply_touches, touches, creates, IsClear}
use Rattle.tg_hall.specs.Drafted.{drafted, GainsRows, IsDraftOf}
use Rattle.tg_hall.proofs.Agreement.{agree_self, AlikeAlong, apart_find, apart-none, apart-among, untouched-steps, vertices-steps}
use Rattle.tg_hall.proofs.Crowds.{alike-clear}

-- ---- names that are put into a list
among-key : (ks : List Name) (k v : Name) → list_any (same_name v) (insert_key bytes_eq ks k) ≡ (list_any (same_name v) ks || same_name v k)
among-key ks k v = by (list_any (same_name k) ks) refl
  where
    by : (b : Bool) → list_any (same_name k) ks ≡ b → list_any (same_name v) (if b then ks else ks ++ k ∷ []) ≡ (list_any (same_name v) ks || same_name v k)
    by false e = list_any-append (same_name v) ks (k ∷ []) ∙ ap (λ b. list_any (same_name v) ks || b) (or-false (same_name v k))
    by true e = same (same_name v k) refl
      where
        same : (b : Bool) → same_name v k ≡ b → list_any (same_name v) ks ≡ (list_any (same_name v) ks || b)
        same true f = ap (λ n. list_any (same_name n) ks) (same_bytes v k f) ∙ e ∙ sym (or-true (list_any (same_name v) ks))
        same false f = sym (or-false (list_any (same_name v) ks))

or_assoc : (a b c : Bool) → ((a || b) || c) ≡ (a || (b || c))
or_assoc true b c = refl
or_assoc false b c = refl

among-all : (ks xs : List Name) (v : Name) → list_any (same_name v) (insert_all bytes_eq ks xs) ≡ (list_any (same_name v) ks || list_any (same_name v) xs)
among-all ks [] v = sym (or-false (list_any (same_name v) ks))
among-all ks (x ∷ xs) v =
    among-all (insert_key bytes_eq ks x) xs v
    ∙ ap (λ b. b || list_any (same_name v) xs) (among-key ks x v)
    ∙ or_assoc (list_any (same_name v) ks) (same_name v x) (list_any (same_name v) xs)

-- ---- what steps write
-- a session touches what it writes
written_touched : (rule : Rule) (v : Name) → list_any (same_name v) (written_by rule) ≡ true → step_touches (Do rule) v ≡ true
written_touched (Take x y z s) v h = or_left (same_name v x) (same_name v y) (sym (or-false (same_name v x)) ∙ h)
written_touched (Grant x y z s) v h = or_right (same_name v x) (same_name v y) (sym (or-false (same_name v y)) ∙ h)
written_touched (Create x n s) v h = ap (λ b. same_name v x || b) (sym (or-false (same_name v n))) ∙ h
written_touched (Remove x y s) v h = sym (or-false (same_name v x)) ∙ h

step_written : (g : ProtectionGraph) (step : Step) (v : Name) → list_any (same_name v) (step_writes g step) ≡ true → step_touches step v ≡ true
step_written g (Do rule) v h = by (is_none (session_refusal g rule)) h
  where
    by : (b : Bool) → list_any (same_name v) (if b then written_by rule else []) ≡ true → step_touches (Do rule) v ≡ true
    by true h = written_touched rule v h
    by false h = absurd (true≢false (sym h))
step_written g (Holds right x y) v h = absurd (true≢false (sym h))
step_written g (Share right x y) v h = refl

either : (a b c : Bool) → (a ≡ true → c ≡ true) → (b ≡ true → c ≡ true) → (a || b) ≡ true → c ≡ true
either true b c l r h = l refl
either false b c l r h = r h

pub writes-touched : (g : ProtectionGraph) (steps : List Answered) (v : Name) → list_any (same_name v) (writes g steps) ≡ true → touches steps v ≡ true
writes-touched g [] v h = absurd (true≢false (sym h))
writes-touched g (a ∷ rest) v h =
    either (list_any (same_name v) (step_writes g a.step)) (list_any (same_name v) (writes (after_step g a.step) rest)) (touches (a ∷ rest) v)
    (λ k. or_left (step_touches a.step v || reply_touches a.reply v) (touches rest v) (or_left (step_touches a.step v) (reply_touches a.reply v) (step_written g a.step v k)))
    (λ k. or_right (step_touches a.step v || reply_touches a.reply v) (touches rest v) (writes-touched (after_step g a.step) rest v k))
    (sym (list_any-append (same_name v) (step_writes g a.step) (writes (after_step g a.step) rest)) ∙ h)

pub writes-push : (g : ProtectionGraph) (steps : List Answered) (a : Answered) → writes g (steps ++ a ∷ []) ≡ writes g steps ++ step_writes (after_steps g steps) a.step
writes-push g [] a = by (step_writes g a.step)
  where
    by : (vs : List Name) → vs ++ [] ≡ vs
    by [] = refl
    by (v ∷ vs) = ap (λ vs. v ∷ vs) (by vs)
writes-push g (b ∷ rest) a =
    ap (λ vs. step_writes g b.step ++ vs) (writes-push (after_step g b.step) rest a)
    ∙ sym (append_assoc (step_writes g b.step) (writes (after_step g b.step) rest) (step_writes (after_steps (after_step g b.step) rest) a.step))

-- the rows after one step more
pub rows-more : (base : Entries) (steps : List Answered) (a : Answered) (old new : Changes) → drafted base old ≡ after_steps (graph_of base) steps → ((v : Name) → is_known old.0 v ≡ list_any (same_name v) (writes (graph_of base) steps))
    → GainsRows old (step_writes (drafted base old) a.step) new → (v : Name) → is_known new.0 v ≡ list_any (same_name v) (writes (graph_of base) (steps ++ a ∷ []))
rows-more base steps a old new stands rows gains v =
    gains v
    ∙ (λ i. rows v i || list_any (same_name v) (step_writes (stands i) a.step))
    ∙ sym (ap (list_any (same_name v)) (writes-push (graph_of base) steps a) ∙ list_any-append (same_name v) (writes (graph_of base) steps) (step_writes (after_steps (graph_of base) steps) a.step))

-- a rule that was carried out put in the rows that it wrote
pub rows-done : (g : ProtectionGraph) (rule : Rule) (old new : Changes) → refusal_of g rule ≡ None → is_some (lack_of_room g rule) ≡ false → keys_of new.0 ≡ insert_all bytes_eq (keys_of old.0) (written_by rule) → GainsRows old (step_writes g (Do rule)) new
rows-done g rule old new e f keys =
    subst (λ b. GainsRows old (if b then written_by rule else []) new) (sym (ap is_none (ap (λ r. or_else r (lack_of_room g rule)) e) ∙ none (lack_of_room g rule) f))
    (λ v. ap (list_any (same_name v)) keys ∙ among-all (keys_of old.0) (written_by rule) v)
  where
    none : (o : Option Refusal) → is_some o ≡ false → is_none o ≡ true
    none None h = refl
    none (Some refusal) h = absurd (true≢false h)

-- ---- a record and a session
module _ (base : Entries) (committed session : List Answered) (theirs ours : Changes) (le : IsDraftOf base committed theirs) (ld : IsDraftOf base session ours)
    (clear : IsClear (graph_of base) committed (Some session)) (distinct : IsDistinct bytes_eq (keys_of base)) (answers : AreAnswers (graph_of base) session)
  where
    abbrev next : Entries
    next = laid_over base theirs

    alike : AlikeAlong (touches session) (graph_of base) (graph_of next) session
    alike =
        subst (λ h. AlikeAlong (touches session) (graph_of base) h session) (sym le.stands)
        (alike-clear (graph_of base) committed session distinct clear.0 (let h = clear.1 in omega (arith, h)) answers)

    -- no row is in both
    rows_apart : AreApart ours theirs
    rows_apart = record {
      apart = λ v k.
          le.rows v
          ∙ apart-among (touches session) (writes (graph_of base) committed) v (apart_find (touches session) (writes (graph_of base) committed) clear.0) (writes-touched (graph_of base) session v (sym (ld.rows v) ∙ k));
    }

    fits_next : Fits next ours
    fits_next = apart_fit base ours theirs ld.sound le.sound rows_apart ld.fits

    -- the session's creations are those of its draft
    created : ours.1 ≡ creates (graph_of next) session
    created =
        append_cancel_left (keys_of base) ours.1 (creates (graph_of base) session)
        (sym ld.fits.vertices ∙ ap (λ (g : ProtectionGraph). g.vertices) ld.stands ∙ vertices-steps (graph_of base) session)
        ∙ alike.creations

    -- a vertex that the session wrote has the row that the draft has for it, and each other is left
    row_same : (u : Name) (right : Right) (v : Name) → (drafted next ours).holds u right v ≡ (after_steps (graph_of next) session).holds u right v
    row_same u right v = by (is_known ours.0 u) refl
      where
        by : (b : Bool) → is_known ours.0 u ≡ b → (drafted next ours).holds u right v ≡ (after_steps (graph_of next) session).holds u right v
        by true k =
            holds-drafted ours ld.sound.rows.apart u next base right v k
            ∙ ap (λ (g : ProtectionGraph). g.holds u right v) ld.stands
            ∙ alike.agree.rows u (writes-touched (graph_of base) session u (sym (ld.rows u) ∙ k)) right v
        by false k =
            holds-left ours ld.sound.rows.apart u next right v k
            ∙ (untouched-steps (same_name u) (graph_of next) (graph_of next) session (agree_self (same_name u) (graph_of next))
            (apart-none u (writes (graph_of next) session) (ap (list_any (same_name u)) (sym alike.writings) ∙ sym (ld.rows u) ∙ k))).rows u (same_refl u) right v

    -- the draft is that of the session's steps after the record as well
    pub draft-clear : IsDraftOf next session ours
    draft-clear = record {
      sound = ld.sound;
      fits = fits_next;
      stands = λ i. record {
        vertices = (fits_next.vertices ∙ ap (λ vs. keys_of next ++ vs) created ∙ sym (vertices-steps (graph_of next) session)) i;
        holds = λ u right v. row_same u right v i;
      };
      rows = λ v. ld.rows v ∙ ap (list_any (same_name v)) alike.writings;
    }

    pub answers-clear : AreAnswers (graph_of next) session
    answers-clear = alike.answers
