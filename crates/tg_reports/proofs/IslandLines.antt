-- The lines of `islands` are the islands, and each vertex stands on one of them, once.
use Rattle.std.proofs.Common.{◌≡◌, ℕ, ◌<◌, Bool, true, false, cond, ◌||◌, ◌&&◌, List, [], ◌∷◌, ◌++◌, refl, sym, ◌∙◌, ap, subst, filter, length, arith}
use Rattle.std.specs.List.{flat_map, AllByRecursion}
use Rattle.std.specs.List.Sorted.{IsStrictlySortedBy}
use Rattle.std.proofs.lemmas.Bool.{false≢true}
use Rattle.std.proofs.lemmas.List.{append-nil}
use Rattle.std.proofs.lemmas.List.Concat.{flat_map-append}
use Rattle.std.proofs.lemmas.List.Elements.{filter-append}
use Rattle.std.proofs.lemmas.Slice.Eq.{bytes_eq-Decides}
use Rattle.tg_names.specs.Names.{Name, same_name}
use Rattle.tg_graph.specs.Graphs.{ProtectionGraph, has_vertex}
use Rattle.tg_words.specs.Spelling.{spaced, line_of}
use Rattle.tg_text.specs.Canonical.{in_name_order}
use Rattle.tg_text.proofs.NameOrder.{among, among-in_order, absent, same_name-refl, Strict, strict-in_order}
use Rattle.tg_islands.proofs.OneIsland.{island_refl, island_sym, island_trans, starts}
use Rattle.tg_inputs.specs.Readings.{ReportText}
use Rattle.tg_reports.specs.Reports.{TellsIslands, island_line}
use Rattle.tg_reports.specs.ReportLaws.{IsIsland, AreIslandsOf, IslandsAreLines}
use Rattle.tg_reports.proofs.OneReport.{same_truth, either_true, filter_same}

-- ---- tests
false_true : {A : Type 0} → false ≡ true → A
false_true e = absurd (false≢true e)

or_false : (a b : Bool) → (a || b) ≡ false → (a ≡ false) × (b ≡ false)
or_false true b h = false_true (sym h)
or_false false b h = (refl, h)

and_true : (a b : Bool) → (a && b) ≡ true → (a ≡ true) × (b ≡ true)
and_true true b h = (refl, h)
and_true false b h = false_true h

both_true : (a b : Bool) → a ≡ true → b ≡ true → (a && b) ≡ true
both_true true b h k = k
both_true false b h k = h

name_is : (v w : Name) → same_name v w ≡ true → v ≡ w
name_is v w = (bytes_eq-Decides v w).0

same_sym : (v w : Name) → same_name v w ≡ true → same_name w v ≡ true
same_sym v w e = subst (λ n. same_name n v ≡ true) (name_is v w e) (same_name-refl v)

-- ---- names that are kept
-- what is done with a kept name
branch : {A : Type 0} (f : List Name → A) (t : Bool) (xs ys : List Name) → f (cond t xs ys) ≡ cond t (f xs) (f ys)
branch f true xs ys = refl
branch f false xs ys = refl

among_step : (t s px a b : Bool) → (s ≡ true → px ≡ t) → a ≡ (px && b) → cond t (s || a) a ≡ (px && (s || b))
among_step true true true a b tie h = refl
among_step true true false a b tie h = false_true (tie refl)
among_step true false px a b tie h = h
among_step false true true a b tie h = false_true (sym (tie refl))
among_step false true false a b tie h = h
among_step false false px a b tie h = h

among_filter : (p : Name → Bool) (x : Name) (ws : List Name) → among x (filter p ws) ≡ (p x && among x ws)
among_filter p x [] = elim (p x) as (λ b. false ≡ (b && false)) [ true ↦ refl | false ↦ refl ]
among_filter p x (w ∷ ws) =
    branch (among x) (p w) (w ∷ filter p ws) (filter p ws)
    ∙ among_step (p w) (same_name x w) (p x) (among x (filter p ws)) (among x ws) (λ s. ap p (name_is x w s)) (among_filter p x ws)

pick_step : (w : Name) (t s px : Bool) (ks ls : List Name) → (s ≡ true → px ≡ t) → ks ≡ cond px ls [] → cond t (cond s (w ∷ ks) ks) ks ≡ cond px (cond s (w ∷ ls) ls) []
pick_step w true true true ks ls tie h = ap (λ ns. w ∷ ns) h
pick_step w true true false ks ls tie h = false_true (tie refl)
pick_step w true false px ks ls tie h = h
pick_step w false true true ks ls tie h = false_true (sym (tie refl))
pick_step w false true false ks ls tie h = h
pick_step w false false px ks ls tie h = h

empty_cond : (b : Bool) (ns : List Name) → ns ≡ [] → cond b ns [] ≡ []
empty_cond true ns h = h
empty_cond false ns h = refl

-- a name among those that are kept
pick : (p : Name → Bool) (x : Name) (ws : List Name) → filter (same_name x) (filter p ws) ≡ cond (p x) (filter (same_name x) ws) []
pick p x [] = sym (empty_cond (p x) [] refl)
pick p x (w ∷ ws) =
    branch (filter (same_name x)) (p w) (w ∷ filter p ws) (filter p ws)
    ∙ pick_step w (p w) (same_name x w) (p x) (filter (same_name x) (filter p ws)) (filter (same_name x) ws) (λ s. ap p (name_is x w s)) (pick p x ws)

none_kept : (x : Name) (ws : List Name) → among x ws ≡ false → filter (same_name x) ws ≡ []
none_kept x [] h = refl
none_kept x (w ∷ ws) h =
    let n = or_false (same_name x w) (among x ws) h in
    ap (λ s. cond s (w ∷ filter (same_name x) ws) (filter (same_name x) ws)) n.0 ∙ none_kept x ws n.1

-- a name stands once among names in strict order
kept_once : (x : Name) (ws : List Name) → Strict ws → among x ws ≡ true → filter (same_name x) ws ≡ x ∷ []
unfolding IsStrictlySortedBy
kept_once x [] s h = false_true h
kept_once x (w ∷ ws) s h = by (same_name x w) refl h (kept_once x ws s.1)
  where
    by : (b : Bool) → same_name x w ≡ b → (b || among x ws) ≡ true → (among x ws ≡ true → filter (same_name x) ws ≡ x ∷ []) → cond b (w ∷ filter (same_name x) ws) (filter (same_name x) ws) ≡ x ∷ []
    by true e k rec =
        let same = name_is x w e in
        let gone = none_kept x ws (ap (λ n. among n ws) same ∙ absent w ws s.0) in
        λ i. sym same i ∷ gone i
    by false e k rec = rec k

-- ---- the one name that is looked for, among names in strict order
none_chosen : (x m : Name) (vs : List Name) → among m vs ≡ false → flat_map (λ v. cond (same_name v m) (x ∷ []) []) vs ≡ []
none_chosen x m [] h = refl
none_chosen x m (v ∷ vs) h = by (same_name v m) refl (none_chosen x m vs (or_false (same_name m v) (among m vs) h).1)
  where
    by : (b : Bool) → same_name v m ≡ b → flat_map (λ u. cond (same_name u m) (x ∷ []) []) vs ≡ [] → cond b (x ∷ []) [] ++ flat_map (λ u. cond (same_name u m) (x ∷ []) []) vs ≡ []
    by true e rest = false_true (sym (or_false (same_name m v) (among m vs) h).0 ∙ same_sym v m e)
    by false e rest = rest

one_chosen : (x m : Name) (vs : List Name) → Strict vs → among m vs ≡ true → flat_map (λ v. cond (same_name v m) (x ∷ []) []) vs ≡ x ∷ []
unfolding IsStrictlySortedBy
one_chosen x m [] s h = false_true h
one_chosen x m (v ∷ vs) s h = by (same_name v m) refl (same_name m v) refl h (one_chosen x m vs s.1)
  where
    by : (b : Bool) → same_name v m ≡ b → (c : Bool) → same_name m v ≡ c → (c || among m vs) ≡ true → (among m vs ≡ true → flat_map (λ u. cond (same_name u m) (x ∷ []) []) vs ≡ x ∷ []) → cond b (x ∷ []) [] ++ flat_map (λ u. cond (same_name u m) (x ∷ []) []) vs ≡ x ∷ []
    by true e c k t rec = ap (λ ns. x ∷ ns) (none_chosen x m vs (ap (λ n. among n vs) (sym (name_is v m e)) ∙ absent v vs s.0))
    by false e true k t rec = false_true (sym e ∙ same_sym m v k)
    by false e false k t rec = rec t

-- the first that is kept
head_kept : (p : Name → Bool) (ws : List Name) (m : Name) (ms : List Name) → filter p ws ≡ m ∷ ms → (p m ≡ true) × (among m ws ≡ true)
head_kept p ws m ms e =
    let here : among m (filter p ws) ≡ true = ap (among m) e ∙ ap (λ b. b || among m ms) (same_name-refl m) in
    and_true (p m) (among m ws) (sym (among_filter p m ws) ∙ here)

some_kept : (x : Name) (ns : List Name) → filter (same_name x) ns ≡ x ∷ [] → (m : Name) × (ms : List Name) × (ns ≡ m ∷ ms)
some_kept x [] e = absurd (elim_nil e)
  where
    elim_nil : [] ≡ x ∷ [] → ⊥
    elim_nil e = cc
some_kept x (m ∷ ms) e = (m, ms, refl)

-- ---- lines
-- the line of a name, if the names that follow begin with it
abbrev page : Name → List Name → List (List Name)
page v [] = []
page v (w ∷ ws) = cond (same_name v w) ((w ∷ ws) ∷ []) []

spaced_names : (w : Name) (ws : List Name) → spaced (w ∷ ws) ≡ w ++ flat_map (λ u. 32 ∷ u) ws
spaced_names w [] = sym (append-nil w)
spaced_names w (v ∷ vs) = ap (λ (t : List ℕ). w ++ 32 ∷ t) (spaced_names v vs)

page_line : (v : Name) (ns : List Name) → flat_map line_of (page v ns) ≡ island_line v ns
page_line v [] = refl
page_line v (w ∷ ws) = by (same_name v w)
  where
    by : (b : Bool) → flat_map line_of (cond b ((w ∷ ws) ∷ []) []) ≡ cond b (w ++ flat_map (λ u. 32 ∷ u) ws ++ 10 ∷ []) []
    by true =
        append-nil (spaced (w ∷ ws) ++ 10 ∷ [])
        ∙ ap (λ (t : List ℕ). t ++ 10 ∷ []) (spaced_names w ws)
    by false = refl

pages_text : (t : Name → Name → Bool) (all names : List Name) → flat_map line_of (flat_map (λ v. page v (filter (t v) all)) names) ≡ flat_map (λ v. island_line v (filter (t v) all)) names
pages_text t all [] = refl
pages_text t all (v ∷ vs) =
    flat_map-append line_of (page v (filter (t v) all)) (flat_map (λ u. page u (filter (t u) all)) vs)
    ∙ (ap (λ (l : List ℕ). l ++ flat_map line_of (flat_map (λ u. page u (filter (t u) all)) vs)) (page_line v (filter (t v) all))
    ∙ ap (λ (l : List ℕ). island_line v (filter (t v) all) ++ l) (pages_text t all vs))

all_append : (Q : List Name → Type 0) (ks ls : List (List Name)) → AllByRecursion Q ks → AllByRecursion Q ls → AllByRecursion Q (ks ++ ls)
all_append Q [] ls h k = k
all_append Q (n ∷ ns) ls h k = (h.0, all_append Q ns ls h.1 k)

page_each : (Q : List Name → Type 0) (v : Name) (ns : List Name) → (0 < length ns → Q ns) → AllByRecursion Q (page v ns)
page_each Q v [] q = tt
page_each Q v (w ∷ ws) q = by (same_name v w)
  where
    by : (b : Bool) → AllByRecursion Q (cond b ((w ∷ ws) ∷ []) [])
    by true = (q (omega arith), tt)
    by false = tt

open_page : (x : Name) (b : Bool) (ns : List Name) → filter (same_name x) (flat_map (λ names. names) (cond b (ns ∷ []) [])) ≡ cond b (filter (same_name x) ns) []
open_page x true ns = ap (filter (same_name x)) (append-nil ns)
open_page x false ns = refl

closed_page : (x v : Name) (ns : List Name) → filter (same_name x) ns ≡ [] → filter (same_name x) (flat_map (λ names. names) (page v ns)) ≡ []
closed_page x v [] h = refl
closed_page x v (w ∷ ws) h = open_page x (same_name v w) (w ∷ ws) ∙ empty_cond (same_name v w) (filter (same_name x) (w ∷ ws)) h

-- ---- a test that is an equivalence of the names
pub record IsClassTest (all : List Name) (t : Name → Name → Bool) : Type 0 where
  pub itself : (u : Name) → among u all ≡ true → t u u ≡ true
  pub turned : (u v : Name) → among u all ≡ true → among v all ≡ true → t u v ≡ true → t v u ≡ true
  pub onward : (u v w : Name) → among u all ≡ true → among v all ≡ true → among w all ≡ true → t u v ≡ true → t v w ≡ true → t u w ≡ true

one_class : (all : List Name) (t : Name → Name → Bool) → IsClassTest all t → (v x : Name) → among v all ≡ true → among x all ≡ true → t v x ≡ true → filter (t v) all ≡ filter (t x) all
one_class all t c v x hv hx e =
    filter_same (t v) (t x) all (λ w hw. same_truth (t v w) (t x w) (c.onward x v w hx hv hw (c.turned v x hv hx e)) (c.onward v x w hv hx hw e))

-- the name x stands on the page of v only where v is the first of its class
page_of_class : (all : List Name) (t : Name → Name → Bool) → Strict all → IsClassTest all t → (x m : Name) (ms : List Name) → among x all ≡ true → filter (t x) all ≡ m ∷ ms → filter (same_name x) (m ∷ ms) ≡ x ∷ [] → (v : Name) → among v all ≡ true → filter (same_name x) (flat_map (λ names. names) (page v (filter (t v) all))) ≡ cond (same_name v m) (x ∷ []) []
page_of_class all t strict c x m ms hx e k v hv = by (t v x) refl
  where
    by : (b : Bool) → t v x ≡ b → filter (same_name x) (flat_map (λ names. names) (page v (filter (t v) all))) ≡ cond (same_name v m) (x ∷ []) []
    by true h =
        ap (λ ns. filter (same_name x) (flat_map (λ names. names) (page v ns))) (one_class all t c v x hv hx h ∙ e)
        ∙ (open_page x (same_name v m) (m ∷ ms) ∙ ap (λ (ks : List Name). cond (same_name v m) ks []) k)
    by false h =
        closed_page x v (filter (t v) all) (pick (t v) x all ∙ ap (λ b. cond b (filter (same_name x) all) []) h)
        ∙ other (same_name v m) refl
      where
        other : (b : Bool) → same_name v m ≡ b → [] ≡ cond b (x ∷ []) []
        other true s =
            let there : t x v ≡ true = ap (t x) (name_is v m s) ∙ (head_kept (t x) all m ms e).0 in
            false_true (sym h ∙ c.turned x v hx hv there)
        other false s = refl

each_page : (x m : Name) (t : Name → Name → Bool) (all names : List Name) → ((v : Name) → among v names ≡ true → filter (same_name x) (flat_map (λ names. names) (page v (filter (t v) all))) ≡ cond (same_name v m) (x ∷ []) []) → filter (same_name x) (flat_map (λ names. names) (flat_map (λ v. page v (filter (t v) all)) names)) ≡ flat_map (λ v. cond (same_name v m) (x ∷ []) []) names
each_page x m t all [] h = refl
each_page x m t all (v ∷ vs) h =
    let here = page v (filter (t v) all) in
    let more = flat_map (λ u. page u (filter (t u) all)) vs in
    ap (filter (same_name x)) (flat_map-append (λ names. names) here more)
    ∙ (filter-append (same_name x) (flat_map (λ names. names) here) (flat_map (λ names. names) more)
    ∙ (ap (λ (ns : List Name). ns ++ filter (same_name x) (flat_map (λ names. names) more)) (h v (ap (λ b. b || among v vs) (same_name-refl v)))
    ∙ ap (λ (ns : List Name). cond (same_name v m) (x ∷ []) [] ++ ns) (each_page x m t all vs (λ u k. h u (either_true (same_name u v) (among u vs) k)))))

stands_once : (all : List Name) (t : Name → Name → Bool) → Strict all → IsClassTest all t → (x : Name) → among x all ≡ true → filter (same_name x) (flat_map (λ names. names) (flat_map (λ v. page v (filter (t v) all)) all)) ≡ x ∷ []
stands_once all t strict c x hx =
    let kept : filter (same_name x) (filter (t x) all) ≡ x ∷ [] = pick (t x) x all ∙ (ap (λ b. cond b (filter (same_name x) all) []) (c.itself x hx) ∙ kept_once x all strict hx) in
    let l = some_kept x (filter (t x) all) kept in
    let first = head_kept (t x) all l.0 l.1 l.2 in
    each_page x l.0 t all all (page_of_class all t strict c x l.0 l.1 hx l.2 (ap (filter (same_name x)) (sym l.2) ∙ kept))
    ∙ one_chosen x l.0 all strict first.1

-- ---- the islands of a graph
known : (g : ProtectionGraph) (u : Name) → among u (in_name_order g.vertices) ≡ true → has_vertex g u ≡ true
known g u h = sym (among-in_order u g.vertices) ∙ h

class_test : (g : ProtectionGraph) (t : Name → Name → Bool) → TellsIslands g t → IsClassTest (in_name_order g.vertices) t
class_test g t tells = record {
  itself = λ u h. (tells u u (known g u h) (known g u h)).1 (island_refl g u (known g u h));
  turned = λ u v h k e. (tells v u (known g v k) (known g u h)).1 (island_sym g u v ((tells u v (known g u h) (known g v k)).0 e));
  onward = λ u v w h k l e f. (tells u w (known g u h) (known g w l)).1 (island_trans g u v w ((tells u v (known g u h) (known g v k)).0 e) ((tells v w (known g v k) (known g w l)).0 f));
}

class_is_island : (g : ProtectionGraph) (t : Name → Name → Bool) → TellsIslands g t → (v : Name) → among v (in_name_order g.vertices) ≡ true → 0 < length (filter (t v) (in_name_order g.vertices)) → IsIsland g (filter (t v) (in_name_order g.vertices))
class_is_island g t tells v hv some = record {
  some = some;
  whole = λ u w hu.
      let all = in_name_order g.vertices in
      let pu = and_true (t v u) (among u all) (sym (among_filter (t v) u all) ∙ hu) in
      let vu = (tells v u (known g v hv) (known g u pu.1)).0 pu.0 in (
        λ hw.
            let pw = and_true (t v w) (among w all) (sym (among_filter (t v) w all) ∙ hw) in
            island_trans g u v w (island_sym g v u vu) ((tells v w (known g v hv) (known g w pw.1)).0 pw.0),
        λ i.
            let back = island_sym g u w i in
            let there = starts g w back.0 u back.1 in
            among_filter (t v) w all ∙ both_true (t v w) (among w all) ((tells v w (known g v hv) there).1 (island_trans g v u w vu i)) (among-in_order w g.vertices ∙ there),
      );
}

each_island : (g : ProtectionGraph) (t : Name → Name → Bool) → TellsIslands g t → (names : List Name) → ((v : Name) → among v names ≡ true → among v (in_name_order g.vertices) ≡ true) → AllByRecursion (IsIsland g) (flat_map (λ v. page v (filter (t v) (in_name_order g.vertices))) names)
each_island g t tells [] h = tt
each_island g t tells (v ∷ vs) h =
    let all = in_name_order g.vertices in
    all_append (IsIsland g) (page v (filter (t v) all)) (flat_map (λ u. page u (filter (t u) all)) vs)
    (page_each (IsIsland g) v (filter (t v) all) (class_is_island g t tells v (h v (ap (λ b. b || among v vs) (same_name-refl v)))))
    (each_island g t tells vs (λ u k. h u (either_true (same_name u v) (among u vs) k)))

pub islands_are_lines : IslandsAreLines
islands_are_lines g report lines =
    let all = in_name_order g.vertices in
    let F : List ℕ → ReportText = λ bytes. record { bytes = bytes; status = 0 } in
    let islands : AreIslandsOf g (flat_map (λ v. page v (filter (lines.0 v) all)) all) = record {
      each = each_island g lines.0 lines.1 all (λ v h. h);
      once = λ v h. stands_once all lines.0 (strict-in_order g.vertices) (class_test g lines.0 lines.1) v (among-in_order v g.vertices ∙ h);
    } in
    (flat_map (λ v. page v (filter (lines.0 v) all)) all, islands, lines.2 ∙ ap F (sym (pages_text lines.0 all all)))
