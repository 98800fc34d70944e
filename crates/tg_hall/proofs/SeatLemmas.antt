-- What the calls of a seat keep.
use Rattle.std.proofs.Common.{◌≡◌, Option, None, IfSome, ◌+◌, ◌++◌, List, [], ◌∷◌, length, take, drop, false, Some, All, refl, sym, ap, subst, ◌∙◌, arith, bytes_eq}
use Rattle.std.specs.Prelude.{slice_get}
use Rattle.std.specs.Option.{option_map}
use Rattle.std.proofs.lemmas.List.{length-append, take-append-le, take_all, take-append-drop}
use Rattle.std.proofs.lemmas.List.Elements.{All-push}
use Rattle.std.proofs.lemmas.Option.{slice_get_within}
use Rattle.std.specs.List.{IsDistinct}
use Rattle.std.specs.Map.{keys_of}
use Rattle.tg_rows.specs.Rows.{Entries}
use Rattle.tg_graph.specs.Graphs.{ProtectionGraph}
use Rattle.tg_graph.specs.GraphOf.{graph_of}
use Rattle.tg_graph.specs.Drafts.{Changes, laid_over, Fits, IsDraft}
use Rattle.tg_hall.specs.declared.answers.Answered.{Answered}
use Rattle.tg_hall.specs.declared.records.Record.{Record}
use Rattle.tg_hall.specs.declared.seats.OpenSession.{OpenSession}
use Rattle.tg_hall.specs.declared.seats.SeatState.{SeatState}
use Rattle.tg_graph.specs.StepWords.{IsNamedStep}
use Rattle.tg_hall.specs.Answers.{IsAnswer, AreAnswers, after_step, after_steps}
use Rattle.tg_hall.specs.Histories.{replay}
use Rattle.tg_hall.specs.Touches.{IsClear, step_writes}
use Rattle.tg_hall.specs.Drafted.{drafted, GainsRows, IsDraftOf}
use Rattle.tg_hall.specs.declared.knowing.Known.{Known}
use Rattle.tg_hall.specs.declared.knowing.Known.TheVariants.{OfBase, OfWhole}
use Rattle.tg_hall.specs.Knowing.{IsKnown, knows_any, forgotten}
use Rattle.tg_hall.specs.Seats.{seen_seat, IsSessionOn, IsConsistent, Rests, AreCounted, unknowing, given_up, KnowsNothing}
use Rattle.tg_hall.proofs.Ordered.{after_steps-push, AreAnswers-push, replay-append, replay-next, replay-push}
use Rattle.tg_hall.proofs.Commuting.{rows-more, draft-clear, answers-clear}

-- a draft with one step more
pub draft-push : (base : Entries) (steps : List Answered) (old new : Changes) (a : Answered) → IsDraftOf base steps old → IsDraft new → Fits base new → drafted base new ≡ after_step (drafted base old) a.step
    → GainsRows old (step_writes (drafted base old) a.step) new → IsDraftOf base (steps ++ a ∷ []) new
draft-push base steps old new a d sound fits next rows = record {
  sound = sound;
  fits = fits;
  stands = next ∙ ap (λ g. after_step g a.step) d.stands ∙ sym (after_steps-push (graph_of base) steps a);
  rows = rows-more base steps a old new d.stands d.rows rows;
}

-- a session with one step more
pub session-push : (base : Entries) (o p : OpenSession) (a : Answered) → IsSessionOn base o → p.kept.items ≡ o.kept.items ++ a ∷ [] → IsDraftOf base (o.kept.items ++ a ∷ []) p.draft → IsAnswer (drafted base o.draft) a.step a.reply → IsNamedStep a.step → IsKnown base p.draft p.known → IsSessionOn base p
session-push base o p a on e drawn told named known = record {
  drawn = subst (λ steps. IsDraftOf base steps p.draft) (sym e) drawn;
  answers = subst (AreAnswers (graph_of base)) (sym e) (AreAnswers-push (graph_of base) o.kept.items a on.answers (subst (λ g. IsAnswer g a.step a.reply) on.drawn.stands told));
  named = subst (All (λ a. IsNamedStep a.step)) (sym e) (All-push (λ a. IsNamedStep a.step) o.kept.items a on.named named);
  known = known;
}

-- what is still known where the base is another
pub known-on : (base next : Entries) (draft : Changes) (known : Known) → IsKnown base draft known → IsKnown next draft (forgotten known)
known-on base next draft (OfBase index) is = (is.0, record { islands = tt; listed = tt })
known-on base next draft (OfWhole index) is = record { islands = tt; listed = tt }

-- nothing that is still known then takes memory
pub forgotten-none : (known : Known) → knows_any (forgotten known) ≡ false
forgotten-none (OfBase index) = refl
forgotten-none (OfWhole index) = refl

-- to forget twice is to forget once
pub forgotten-twice : (known : Known) → forgotten known ≡ forgotten (forgotten known)
forgotten-twice (OfBase index) = refl
forgotten-twice (OfWhole index) = refl

-- a session that rests on a record as well
pub session-clear : (base : Entries) (committed : List Answered) (theirs : Changes) (o : OpenSession) → IsDraftOf base committed theirs → IsSessionOn base o → IsClear (graph_of base) committed (Some o.kept.items) → IsDistinct bytes_eq (keys_of base) → o.known ≡ forgotten o.known → IsSessionOn (laid_over base theirs) o
session-clear base committed theirs o le on clear distinct unknown = record {
  drawn = draft-clear base committed o.kept.items theirs o.draft le on.drawn clear distinct on.answers;
  answers = answers-clear base committed o.kept.items theirs o.draft le on.drawn clear distinct on.answers;
  named = on.named;
  known = subst (IsKnown (laid_over base theirs) o.draft) (sym unknown) (known-on base (laid_over base theirs) o.draft o.known on.known);
}

pub unknowing-on : (base : Entries) (o : OpenSession) → IsSessionOn base o → IsSessionOn base (unknowing o)
unknowing-on base o on = record { drawn = on.drawn; answers = on.answers; named = on.named; known = known-on base base o.draft o.known on.known }

-- the same, where it forgets the rest from then on
pub unknowing-clear : (base : Entries) (committed : List Answered) (theirs : Changes) (o : OpenSession) → IsDraftOf base committed theirs → IsSessionOn base o → IsClear (graph_of base) committed (Some o.kept.items) → IsDistinct bytes_eq (keys_of base) → IsSessionOn (laid_over base theirs) (unknowing o)
unknowing-clear base committed theirs o le on clear distinct =
    session-clear base committed theirs (unknowing o) le (unknowing-on base o on) clear distinct (forgotten-twice o.known)

pub seat-clear : (base : Entries) (committed : List Answered) (theirs : Changes) (session : Option OpenSession) → IsDraftOf base committed theirs → IfSome session (IsSessionOn base)
    → IsClear (graph_of base) committed (option_map (λ (o : OpenSession). o.kept.items) session) → IsDistinct bytes_eq (keys_of base) → IfSome session (λ (o : OpenSession). o.known ≡ forgotten o.known) → IfSome session (IsSessionOn (laid_over base theirs))
seat-clear base committed theirs None le on clear distinct unknown = tt
seat-clear base committed theirs (Some o) le on clear distinct unknown = session-clear base committed theirs o le on clear distinct unknown

-- a seat that has taken in one record more
pub rests-next : (g : ProtectionGraph) (history : List Record) (s t : SeatState) (r : Record) → slice_get history s.taken ≡ Some r → t.taken ≡ s.taken + 1 → graph_of t.graph ≡ after_steps (graph_of s.graph) r.steps → Rests g history s → Rests g history t
rests-next g history s t r is e f h = record {
  within = let lt = slice_get_within history s.taken r is in omega (arith, lt, e);
  replayed = f ∙ ap (λ k. after_steps k r.steps) h.replayed ∙ sym (replay-next g history s.taken r is) ∙ ap (λ n. replay g (take n history)) (sym e);
}

-- a seat that has put its session at the end
pub rests-put : (g : ProtectionGraph) (history later : List Record) (s t : SeatState) (r : Record) → s.taken ≡ length history → later ≡ history ++ r ∷ [] → t.taken ≡ s.taken + 1 → graph_of t.graph ≡ after_steps (graph_of s.graph) r.steps → Rests g history s → Rests g later t
rests-put g history later s t r all is e f h =
    let n : length later ≡ t.taken = ap length is ∙ length-append history (r ∷ []) ∙ omega (arith, all, e) in
    record {
      within = omega (arith, n);
      replayed = f ∙ ap (λ k. after_steps k r.steps) (h.replayed ∙ ap (replay g) (take_all s.taken history (omega (arith, all)))) ∙ sym (replay-push g history r) ∙ ap (replay g) (sym is) ∙ ap (replay g) (sym (take_all t.taken later (omega (arith, n))));
    }

-- a seat that stands where it stood, while the history has grown
pub rests-grown : (g : ProtectionGraph) (history : List Record) (s : SeatState) (r : Record) → Rests g history s → Rests g (history ++ r ∷ []) s
rests-grown g history s r h = record {
  within = omega (arith, h.within, length-append history (r ∷ []));
  replayed = h.replayed ∙ ap (replay g) (sym (take-append-le s.taken history (r ∷ []) h.within));
}

-- what is left leads a seat to the graph of the whole history
pub rests-whole : (g : ProtectionGraph) (history : List Record) (s : SeatState) → Rests g history s → replay (graph_of s.graph) (drop s.taken history) ≡ replay g history
rests-whole g history s h =
    ap (λ k. replay k (drop s.taken history)) h.replayed ∙ sym (replay-append g (take s.taken history) (drop s.taken history)) ∙ ap (replay g) (take-append-drop s.taken history)
