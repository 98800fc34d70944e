-- Where records wrote, and how a seat comes by that to where another stands.
use Rattle.std.proofs.Common.{◌≡◌, ℕ, zero, suc, ◌+◌, ◌<◌, ◌≤◌, ◌⊎◌, inl, inr, ◌++◌, ◌||◌, Bool, true, false, cond, List, [], ◌∷◌, length, take, drop, get_or, map, All, Option, None, Some, MatchOption, refl, sym, ap, subst, ◌∙◌, arith, true≢false, bytes_eq}
use Rattle.std.specs.Prelude.{slice_get}
use Rattle.std.specs.Option.{option_map_or, option_map}
use Rattle.std.specs.List.{list_any, filter_map, cons_option}
use Rattle.std.specs.Map.{keys_of, lookup}
use Rattle.std.proofs.lemmas.List.{length-append, take-append-le, take_all, drop-append-le, drop_all}
use Rattle.std.proofs.lemmas.List.Elements.{All-append, All-drop, All-weaker, filter_map-append}
use Rattle.std.proofs.lemmas.List.Folds.{list_any-append}
use Rattle.std.proofs.lemmas.Option.{none-some, same_Some, slice_get_within, slice_get-map, slice_get-get_or}
use Rattle.indexmap.specs.IndexSet.{insert_key, insert_all as insert_all_keys}
use Rattle.indexmap.proofs.SetLemmas.{keys_insert_all}
use Rattle.tg_names.specs.declared.right_sets.Right.{Right}
use Rattle.tg_names.specs.Sets.{member, nothing}
use Rattle.tg_names.specs.Names.{Name, same_name}
use Rattle.tg_graph.specs.Graphs.{ProtectionGraph}
use Rattle.tg_rows.specs.Rows.{Edges, Entries, is_known, label_in, IsGraph}
use Rattle.tg_graph.specs.GraphOf.{graph_of}
use Rattle.tg_graph.specs.Drafts.{Changes, laid_over, IsDraft, entries_at, taken_over, ArePositionsOf}
use Rattle.tg_graph.proofs.DraftLaws.{holds-left}
use Rattle.tg_graph.proofs.TakenOver.{lookup-rows, rows_of-entries}
use Rattle.tg_hall.specs.declared.records.Record.{Record}
use Rattle.tg_hall.specs.declared.trails.Trail.{Trail}
use Rattle.tg_hall.specs.declared.seats.SeatState.{SeatState}
use Rattle.tg_hall.specs.Answers.{after_steps}
use Rattle.tg_hall.specs.Histories.{replay}
use Rattle.tg_hall.specs.Drafted.{IsDraftOf}
use Rattle.tg_hall.specs.Seats.{Rests}
use Rattle.tg_hall.specs.Trails.{vertices_at, LeadsBy, IsStart, IsTrail, Notes, SameTrail}
use Rattle.tg_hall.proofs.Ordered.{replay-push}

-- ---- from graph to graph
keys-append : (ks xs ys : List Name) → insert_all_keys bytes_eq ks (xs ++ ys) ≡ insert_all_keys bytes_eq (insert_all_keys bytes_eq ks xs) ys
keys-append ks [] ys = refl
keys-append ks (x ∷ xs) ys = keys-append (insert_key bytes_eq ks x) xs ys

neither : (a b : Bool) → (a || b) ≡ false → (a ≡ false) × (b ≡ false)
neither true b e = absurd (true≢false e)
neither false b e = (refl, e)

leads-then : (g h k : ProtectionGraph) (xs ys : List Name) → LeadsBy g xs h → LeadsBy h ys k → LeadsBy g (xs ++ ys) k
leads-then g h k xs ys one two = record {
  vertices = keys-append g.vertices xs ys ∙ ap (λ vs. insert_all_keys bytes_eq vs ys) one.vertices ∙ two.vertices;
  others = λ u right v none.
      let parts = neither (list_any (same_name u) xs) (list_any (same_name u) ys) (sym (list_any-append (same_name u) xs ys) ∙ none) in
      one.others u right v parts.0 ∙ two.others u right v parts.1;
}

leads-draft : (base : Entries) (d : Changes) → IsDraft d → LeadsBy (graph_of base) (keys_of d.0) (graph_of (laid_over base d))
leads-draft base d i = record {
  vertices = sym (keys_insert_all bytes_eq base d.0);
  others = λ u right v none. sym (holds-left d i.rows.apart u base right v none);
}

-- ---- what stands at the positions
all_here : (vs : List Name) (ps : List ℕ) (names : List Name) → map (slice_get vs) ps ≡ map Some names → (filter_map (slice_get vs) ps ≡ names) × All (λ p. p < length vs) ps
all_here vs [] [] e = (refl, λ i d lt. absurd (omega arith))
all_here vs [] (n ∷ names) e = absurd (no_items (Some n) (map Some names) (sym e))
  where
    no_items : (o : Option Name) (os : List (Option Name)) → o ∷ os ≡ [] → ⊥
    no_items o os e = cc
all_here vs (p ∷ ps) [] e = absurd (no_items (slice_get vs p) (map (slice_get vs) ps) e)
  where
    no_items : (o : Option Name) (os : List (Option Name)) → o ∷ os ≡ [] → ⊥
    no_items o os e = cc
all_here vs (p ∷ ps) (n ∷ names) e =
    let first : slice_get vs p ≡ Some n = cc in
    let rest : map (slice_get vs) ps ≡ map Some names = cc in
    let tail = all_here vs ps names rest in
    (ap (λ o. cons_option o (filter_map (slice_get vs) ps)) first ∙ ap (λ ns. n ∷ ns) tail.0, all-cons p ps (slice_get_within vs p n first) tail.1)
  where
    all-cons : (p : ℕ) (ps : List ℕ) → p < length vs → All (λ p. p < length vs) ps → All (λ p. p < length vs) (p ∷ ps)
    all-cons p ps h rest zero d lt = h
    all-cons p ps h rest (suc i) d lt = rest i d (omega arith)

at-append : (vs ws : List Name) (p : ℕ) → p < length vs → slice_get (vs ++ ws) p ≡ slice_get vs p
at-append [] ws p lt = absurd (omega arith)
at-append (v ∷ vs) ws zero lt = refl
at-append (v ∷ vs) ws (suc p) lt = at-append vs ws p (omega arith)

-- positions of vertices stay when more come
stay : (vs ws : List Name) (ps : List ℕ) → All (λ p. p < length vs) ps → filter_map (slice_get (vs ++ ws)) ps ≡ filter_map (slice_get vs) ps
stay vs ws [] h = refl
stay vs ws (p ∷ ps) h = λ i. cons_option (at-append vs ws p (h zero p (omega arith)) i) (stay vs ws ps (λ k d lt. h (suc k) d (omega arith)) i)

keys-entries : (es : Entries) (ps : List ℕ) → keys_of (entries_at es ps) ≡ filter_map (slice_get (keys_of es)) ps
keys-entries es [] = refl
keys-entries es (p ∷ ps) = by (slice_get es p) ∙ (λ i. cons_option (sym (slice_get-map (λ (e : List ℕ × Edges). e.0) es p) i) (keys-entries es ps i))
  where
    by : (o : Option (List ℕ × Edges)) → keys_of (cons_option o (entries_at es ps)) ≡ cons_option (option_map (λ (e : List ℕ × Edges). e.0) o) (keys_of (entries_at es ps))
    by None = refl
    by (Some e) = refl

-- ---- a trail with one record more
last_or_before : (xs : List ℕ) (y k x : ℕ) → slice_get (xs ++ y ∷ []) k ≡ Some x → ((slice_get xs k ≡ Some x)) ⊎ ((k ≡ length xs) × (y ≡ x))
last_or_before [] y zero x e = inr (refl, same_Some y x e)
last_or_before [] y (suc k) x e = absurd (none-some x e)
last_or_before (z ∷ xs) y zero x e = inl e
last_or_before (z ∷ xs) y (suc k) x e = by (last_or_before xs y k x e)
  where
    by : ((slice_get xs k ≡ Some x)) ⊎ ((k ≡ length xs) × (y ≡ x)) → ((slice_get xs k ≡ Some x)) ⊎ ((suc k ≡ suc (length xs)) × (y ≡ x))
    by (inl h) = inl h
    by (inr h) = inr (ap suc h.0, h.1)

pub trail-same : (g : ProtectionGraph) (history later : List Record) (t u : Trail) → later ≡ history → SameTrail t u → IsTrail g history t → IsTrail g later u
trail-same g history later t u e s h =
    subst (λ records. IsTrail g records u) (sym e)
    (record {
      one_each = ap length s.starts ∙ h.one_each;
      positions = subst (All (λ p. p < length (replay g history).vertices)) (sym s.positions) h.positions;
      starts = λ k start at. subst (λ ps. IsStart (replay g (take k history)) (replay g history) ps start) (sym s.positions) (h.starts k start (sym (ap (λ xs. slice_get xs k) s.starts) ∙ at));
    })

module _ (g : ProtectionGraph) (history : List Record) (t u : Trail) (r : Record) (base : Entries) (d : Changes) (ps : List ℕ)
    (here : graph_of base ≡ replay g history) (draft : IsDraftOf base r.steps d) (at : ArePositionsOf base d ps) (notes : Notes t ps u) (h : IsTrail g history t)
  where
    abbrev later : ProtectionGraph
    later = replay g (history ++ r ∷ [])

    made : graph_of (laid_over base d) ≡ later
    made = draft.stands ∙ ap (λ k. after_steps k r.steps) here ∙ sym (replay-push g history r)

    grown : later.vertices ≡ (replay g history).vertices ++ d.1
    grown = ap (λ (k : ProtectionGraph). k.vertices) (sym made) ∙ draft.fits.vertices ∙ ap (λ (k : ProtectionGraph). k.vertices ++ d.1) here

    now : (filter_map (slice_get later.vertices) ps ≡ keys_of d.0) × All (λ p. p < length later.vertices) ps
    now = subst (λ vs. (filter_map (slice_get vs) ps ≡ keys_of d.0) × All (λ p. p < length vs) ps) (ap (λ (k : ProtectionGraph). k.vertices) made) (all_here (keys_of (laid_over base d)) ps (keys_of d.0) at)

    step : LeadsBy (replay g history) (vertices_at later ps) later
    step = subst (λ names. LeadsBy (replay g history) names later) (sym now.0) (subst (λ k. LeadsBy (replay g history) (keys_of d.0) k) made (subst (λ k. LeadsBy k (keys_of d.0) (graph_of (laid_over base d))) here (leads-draft base d draft.sound)))

    longer : length (t.positions.items ++ ps) ≡ length t.positions.items + length ps
    longer = length-append t.positions.items ps

    earlier : (k start : ℕ) → k ≤ length history → IsStart (replay g (take k history)) (replay g history) t.positions.items start → IsStart (replay g (take k (history ++ r ∷ []))) later (t.positions.items ++ ps) start
    earlier k start few s =
        let left = drop start t.positions.items in
        let names : vertices_at later (drop start (t.positions.items ++ ps)) ≡ vertices_at (replay g history) left ++ vertices_at later ps =
        ap (vertices_at later) (drop-append-le start t.positions.items ps s.within)
        ∙ filter_map-append (slice_get later.vertices) left ps
        ∙ ap (λ vs. vs ++ vertices_at later ps) (ap (λ vs. filter_map (slice_get vs) left) grown ∙ stay (replay g history).vertices d.1 left (All-drop (λ p. p < length (replay g history).vertices) start t.positions.items h.positions)) in
        record {
          within = omega (arith, s.within, longer);
          leads =
              subst (λ from. LeadsBy from (vertices_at later (drop start (t.positions.items ++ ps))) later) (ap (replay g) (sym (take-append-le k history (r ∷ []) few)))
              (subst (λ ns. LeadsBy (replay g (take k history)) ns later) (sym names) (leads-then (replay g (take k history)) (replay g history) later (vertices_at (replay g history) left) (vertices_at later ps) s.leads step));
        }

    last_start : (k start : ℕ) → k ≡ length history → length t.positions.items ≡ start → IsStart (replay g (take k (history ++ r ∷ []))) later (t.positions.items ++ ps) start
    last_start k start e f =
        let whole : take k (history ++ r ∷ []) ≡ history = take-append-le k history (r ∷ []) (omega (arith, e)) ∙ take_all k history (omega (arith, e)) in
        let left : drop start (t.positions.items ++ ps) ≡ ps = drop-append-le start t.positions.items ps (omega (arith, f)) ∙ ap (λ xs. xs ++ ps) (drop_all start t.positions.items (omega (arith, f))) in
        record {
          within = omega (arith, f, longer);
          leads = subst (λ from. LeadsBy (replay g from) (vertices_at later (drop start (t.positions.items ++ ps))) later) (sym whole) (subst (λ left. LeadsBy (replay g history) (vertices_at later left) later) (sym left) step);
        }

    start_at : (k start : ℕ) → (slice_get t.starts.items k ≡ Some start) ⊎ ((k ≡ length t.starts.items) × (length t.positions.items ≡ start)) → IsStart (replay g (take k (history ++ r ∷ []))) later (t.positions.items ++ ps) start
    start_at k start (inl e) = let lt = slice_get_within t.starts.items k start e in earlier k start (omega (arith, lt, h.one_each)) (h.starts k start e)
    start_at k start (inr e) = last_start k start (e.0 ∙ h.one_each) e.1

    more : (p : ℕ) → p < length (replay g history).vertices → p < length later.vertices
    more p lt = omega (arith, lt, ap length grown, length-append (replay g history).vertices d.1)

    pub trail-put : IsTrail g (history ++ r ∷ []) u
    trail-put = record {
      one_each = ap length notes.starts_after ∙ length-append t.starts.items (length t.positions.items ∷ []) ∙ ap (λ n. n + 1) h.one_each ∙ sym (length-append history (r ∷ []));
      positions =
          subst (All (λ p. p < length later.vertices)) (sym notes.positions_after)
          (All-append (λ p. p < length later.vertices) t.positions.items ps (All-weaker (λ p. p < length (replay g history).vertices) (λ p. p < length later.vertices) more t.positions.items h.positions) now.1);
      starts = λ k start e.
          subst (λ items. IsStart (replay g (take k (history ++ r ∷ []))) later items start) (sym notes.positions_after)
          (start_at k start (last_or_before t.starts.items (length t.positions.items) k start (sym (ap (λ xs. slice_get xs k) notes.starts_after) ∙ e)));
    }

-- ---- one graph taken over into another
module _ (base source : Entries) (ps : List ℕ) (l : LeadsBy (graph_of base) (vertices_at (graph_of source) ps) (graph_of source)) where
  pub vertices-taken : keys_of (taken_over base source ps) ≡ keys_of source
  vertices-taken = keys_insert_all bytes_eq base (entries_at source ps) ∙ ap (insert_all_keys bytes_eq (keys_of base)) (keys-entries source ps) ∙ l.vertices

  holds-taken : (g : IsGraph source) (u : Name) (right : Right) (v : Name) → (graph_of (taken_over base source ps)).holds u right v ≡ (graph_of source).holds u right v
  holds-taken g u right v =
      ap (λ o. member (option_map_or (λ row. label_in row v) o nothing) right) (lookup-rows base source (entries_at source ps) u (rows_of-entries source ps g.apart))
      ∙ by (is_known (entries_at source ps) u) refl
    where
      by : (b : Bool) → is_known (entries_at source ps) u ≡ b → member (option_map_or (λ row. label_in row v) (cond b (lookup (bytes_eq u) source) (lookup (bytes_eq u) base)) nothing) right ≡ (graph_of source).holds u right v
      by true e = refl
      by false e = l.others u right v (sym (ap (list_any (bytes_eq u)) (keys-entries source ps)) ∙ e)

  pub graph-taken : IsGraph source → graph_of (taken_over base source ps) ≡ graph_of source
  graph-taken g = λ i. record { vertices = vertices-taken i; holds = λ u right v. holds-taken g u right v i }

-- ---- the trail of a hall
pub trail-none : (g : ProtectionGraph) (t : Trail) → t.positions.items ≡ [] → t.starts.items ≡ [] → IsTrail g [] t
trail-none g t e f = record {
  one_each = ap length f;
  positions = subst (All (λ p. p < length g.vertices)) (sym e) (λ i d lt. absurd (omega arith));
  starts = λ k start at. absurd (none-some start (sym (ap (λ xs. slice_get xs k) f) ∙ at));
}

-- a seat has put its session at the end
pub trail-joined : (g : ProtectionGraph) (history later : List Record) (s : SeatState) (t mid u : Trail) (r : Record) (d : Changes) (ps : List ℕ) → s.taken ≡ length history → later ≡ history ++ r ∷ [] → SameTrail t mid → Notes mid ps u
    → IsDraftOf s.graph r.steps d → ArePositionsOf s.graph d ps → Rests g history s → IsTrail g history t → IsTrail g later u
trail-joined g history later s t mid u r d ps all is same notes draft at rest h =
    let here : graph_of s.graph ≡ replay g history = rest.replayed ∙ ap (replay g) (take_all s.taken history (omega (arith, all))) in
    subst (λ records. IsTrail g records u) (sym is) (trail-put g history mid u r s.graph d ps here draft at notes (trail-same g history history t mid refl same h))

-- the starts lie within the positions
pub starts-within : (g : ProtectionGraph) (history : List Record) (t : Trail) → IsTrail g history t → All (λ start. start ≤ length t.positions.items) t.starts.items
starts-within g history t h i d lt = (h.starts i (get_or t.starts.items i d) (slice_get-get_or t.starts.items i d lt)).within

-- what a seat that is behind finds in the trail leads it to where a seat stands that has taken in all
pub leads-left : (g : ProtectionGraph) (history : List Record) (t : Trail) (s source : SeatState) (left : List ℕ) → IsTrail g history t → Rests g history s → Rests g history source → s.taken < length history → source.taken ≡ length history
    → MatchOption (slice_get t.starts.items s.taken) (left ≡ []) (λ start. left ≡ drop start t.positions.items) → LeadsBy (graph_of s.graph) (vertices_at (graph_of source.graph) left) (graph_of source.graph)
leads-left g history t s source left h mine theirs behind all found = by (slice_get t.starts.items s.taken) refl found
  where
    whole : graph_of source.graph ≡ replay g history
    whole = theirs.replayed ∙ ap (replay g) (take_all source.taken history (omega (arith, all)))

    by : (o : Option ℕ) → slice_get t.starts.items s.taken ≡ o → MatchOption o (left ≡ []) (λ start. left ≡ drop start t.positions.items) → LeadsBy (graph_of s.graph) (vertices_at (graph_of source.graph) left) (graph_of source.graph)
    by None e f = absurd (none-some (get_or t.starts.items s.taken 0) (sym e ∙ slice_get-get_or t.starts.items s.taken 0 (omega (arith, behind, h.one_each))))
    by (Some start) e f =
        subst (λ k. LeadsBy (graph_of s.graph) (vertices_at k left) k) (sym whole)
        (subst (λ k. LeadsBy k (vertices_at (replay g history) left) (replay g history)) (sym mine.replayed)
        (subst (λ ps. LeadsBy (replay g (take s.taken history)) (vertices_at (replay g history) ps) (replay g history)) (sym f) (h.starts s.taken start e).leads))
