-- What rows that are put into a base do to the graph.
use Rattle.std.proofs.Common.{◌≡◌, ℕ, ◌+◌, ◌<◌, ◌≤◌, Bool, true, false, cond, List, [], ◌∷◌, ◌++◌, length, Option, Some, None, refl, sym, ap, subst, ◌∙◌, bytes_eq, IfSome, is_some, true≢false, arith, ◌||◌, ◌&&◌, not, Result, Ok, Err, OnOk}
use Rattle.std.specs.Prelude.{if◌then◌else◌}
use Rattle.std.specs.Option.{option_map_or}
use Rattle.std.specs.List.{list_any, IsDistinct, AllByRecursion}
use Rattle.std.specs.Map.{keys_of, lookup, set_value}
use Rattle.std.specs.Cmp.Lexicographic.{nat_list_eq_equiv}
use Rattle.std.proofs.lemmas.Map.Made.{is_some-lookup}
use Rattle.std.proofs.lemmas.Map.Keys.{IsDistinct-push}
use Rattle.std.proofs.Math.Bool.{or-true}
use Rattle.std.proofs.lemmas.List.Folds.{list_any-append}
use Rattle.std.proofs.lemmas.List.{length-append, length-map, append-nil, append_assoc, append_cancel_left, map-append}
use Rattle.indexmap.specs.IndexMap.{insert_entry, insert_all}
use Rattle.indexmap.specs.IndexSet.{insert_key, insert_all as set_all}
use Rattle.indexmap.proofs.MapLemmas.{insert_all_push}
use Rattle.indexmap.proofs.SetLemmas.{keys_insert_entry, keys_insert_all}
use Rattle.tg_names.specs.declared.right_sets.Rights.{Rights}
use Rattle.tg_rows.specs.Rows.{Edges, Entries, Adds, TakesAway, IsGraph, IsRow, is_target, has_edge, is_known}
use Rattle.tg_names.specs.Names.{IsName}
use Rattle.tg_graph.specs.GraphOf.{graph_of}
use Rattle.tg_graph.specs.Rules.{with_rights, without_rights, with_vertex}
use Rattle.tg_graph.specs.Drafts.{Changes, is_created, laid_over, Fits, AreRows, IsDraft, PutsRow}
use Rattle.tg_graph.proofs.NewNames.{is_among, new_names, filter-alike, among-filter, not_among, set-new, set-push}
use Rattle.tg_rows.proofs.Rows.{symm, same_bytes, row_none}
use Rattle.tg_graph.proofs.Graphs.{AltersRow, graph-adds, is_graph-adds, graph-takes, is_graph-takes, graph-creates, is_graph-creates}

-- ---- one row put in
same_answer : {X : Type 0} (b : Bool) (x y z : X) → cond b x z ≡ cond b x (cond b y z)
same_answer true x y z = refl
same_answer false x y z = refl

turned : {X : Type 0} (a b : Bool) (x y z : X) → (a ≡ true → b ≡ true → ⊥) → cond a x (cond b y z) ≡ cond b y (cond a x z)
turned true true x y z never = absurd (never refl refl)
turned true false x y z never = refl
turned false b x y z never = refl

pub lookup-put : (es : Entries) (k : List ℕ) (v : Edges) (u : List ℕ) → lookup (bytes_eq u) (insert_entry bytes_eq es k v) ≡ cond (bytes_eq k u) (Some v) (lookup (bytes_eq u) es)
lookup-put [] k v u = ap (λ b. cond b (Some v) None) (symm u k)
lookup-put (e ∷ es) k v u = by (bytes_eq k e.0) refl (lookup-put es k v u)
  where
    by : (b : Bool) → bytes_eq k e.0 ≡ b → lookup (bytes_eq u) (insert_entry bytes_eq es k v) ≡ cond (bytes_eq k u) (Some v) (lookup (bytes_eq u) es) → lookup (bytes_eq u) (insert_entry bytes_eq (e ∷ es) k v) ≡ cond (bytes_eq k u) (Some v) (lookup (bytes_eq u) (e ∷ es))
    by true h rest =
        ap (λ b. lookup (bytes_eq u) (if b then (e.0, v) ∷ es else e ∷ insert_entry bytes_eq es k v)) h
        ∙ same_answer (bytes_eq u e.0) (Some v) (Some e.1) (lookup (bytes_eq u) es)
        ∙ ap (λ b. cond b (Some v) (cond (bytes_eq u e.0) (Some e.1) (lookup (bytes_eq u) es))) (ap (bytes_eq u) (sym (same_bytes k e.0 h)) ∙ symm u k)
    by false h rest =
        ap (λ b. lookup (bytes_eq u) (if b then (e.0, v) ∷ es else e ∷ insert_entry bytes_eq es k v)) h
        ∙ ap (λ l. cond (bytes_eq u e.0) (Some e.1) l) rest
        ∙ turned (bytes_eq u e.0) (bytes_eq k u) (Some e.1) (Some v) (lookup (bytes_eq u) es) (λ p q. true≢false (sym (ap (λ n. bytes_eq n e.0) (same_bytes k u q) ∙ p) ∙ h))

-- a row that is there is put in as it is set
pub put-set : (es : Entries) (k : List ℕ) (v : Edges) → is_known es k ≡ true → set_value (bytes_eq k) es v ≡ insert_entry bytes_eq es k v
put-set [] k v h = absurd (true≢false (sym h))
put-set (e ∷ es) k v h = by (bytes_eq k e.0) refl (put-set es k v)
  where
    by : (b : Bool) → bytes_eq k e.0 ≡ b → (is_known es k ≡ true → set_value (bytes_eq k) es v ≡ insert_entry bytes_eq es k v) → set_value (bytes_eq k) (e ∷ es) v ≡ insert_entry bytes_eq (e ∷ es) k v
    by true t rest =
        ap (λ b. cond b ((e.0, v) ∷ es) (e ∷ set_value (bytes_eq k) es v)) t
        ∙ sym (ap (λ b. if b then (e.0, v) ∷ es else e ∷ insert_entry bytes_eq es k v) t)
    by false t rest =
        ap (λ b. cond b ((e.0, v) ∷ es) (e ∷ set_value (bytes_eq k) es v)) t
        ∙ ap (λ l. e ∷ l) (rest (sym (ap (λ b. b || is_known es k) t) ∙ h))
        ∙ sym (ap (λ b. if b then (e.0, v) ∷ es else e ∷ insert_entry bytes_eq es k v) t)

-- a new one goes last
pub put-new : (es : Entries) (k : List ℕ) (v : Edges) → is_known es k ≡ false → insert_entry bytes_eq es k v ≡ es ++ (k, v) ∷ []
put-new [] k v h = refl
put-new (e ∷ es) k v h = by (bytes_eq k e.0) refl (put-new es k v)
  where
    by : (b : Bool) → bytes_eq k e.0 ≡ b → (is_known es k ≡ false → insert_entry bytes_eq es k v ≡ es ++ (k, v) ∷ []) → insert_entry bytes_eq (e ∷ es) k v ≡ (e ∷ es) ++ (k, v) ∷ []
    by true t rest = absurd (true≢false (sym (ap (λ b. b || is_known es k) t) ∙ h))
    by false t rest =
        ap (λ b. if b then (e.0, v) ∷ es else e ∷ insert_entry bytes_eq es k v) t
        ∙ ap (λ l. e ∷ l) (rest (sym (ap (λ b. b || is_known es k) t) ∙ h))

apart-key : (ks : List (List ℕ)) (k : List ℕ) → IsDistinct bytes_eq ks → IsDistinct bytes_eq (insert_key bytes_eq ks k)
apart-key ks k d = by (list_any (bytes_eq k) ks) refl
  where
    by : (b : Bool) → list_any (bytes_eq k) ks ≡ b → IsDistinct bytes_eq (insert_key bytes_eq ks k)
    by true e = subst (IsDistinct bytes_eq) (sym (ap (λ b. if b then ks else ks ++ k ∷ []) e)) d
    by false e = subst (IsDistinct bytes_eq) (sym (ap (λ b. if b then ks else ks ++ k ∷ []) e)) (IsDistinct-push nat_list_eq_equiv ks k d e)

apart-put : (es : Entries) (k : List ℕ) (v : Edges) → IsDistinct bytes_eq (keys_of es) → IsDistinct bytes_eq (keys_of (insert_entry bytes_eq es k v))
apart-put es k v d = subst (IsDistinct bytes_eq) (sym (keys_insert_entry bytes_eq es k v)) (apart-key (keys_of es) k d)

known-some : (es : Entries) (v : List ℕ) (row : Edges) → lookup (bytes_eq v) es ≡ Some row → is_known es v ≡ true
known-some es v row e = sym (is_some-lookup (bytes_eq v) es) ∙ ap is_some e

pub are-put : (rows : Entries) (x : List ℕ) (row : Edges) → AreRows rows → IsRow row → IsName x → AreRows (insert_entry bytes_eq rows x row)
are-put rows x row a r name = record {
  apart = apart-put rows x row a.apart;
  rows = λ u. subst (λ o. IfSome o IsRow) (sym (lookup-put rows x row u)) (at u (bytes_eq x u));
  names = λ v k. named v (bytes_eq x v) refl (sym (is_some-lookup (bytes_eq v) (insert_entry bytes_eq rows x row) ∙ k));
}
  where
    at : (u : List ℕ) (b : Bool) → IfSome (cond b (Some row) (lookup (bytes_eq u) rows)) IsRow
    at u true = r
    at u false = a.rows u

    named : (v : List ℕ) (b : Bool) → bytes_eq x v ≡ b → true ≡ is_some (lookup (bytes_eq v) (insert_entry bytes_eq rows x row)) → IsName v
    named v true e h = subst IsName (same_bytes x v e) name
    named v false e h = a.names v (sym (is_some-lookup (bytes_eq v) rows) ∙ sym (h ∙ ap is_some (lookup-put rows x row v ∙ ap (λ b. cond b (Some row) (lookup (bytes_eq v) rows)) e)))

-- ---- all rows put in
abbrev laid : Entries → Entries → Entries
laid base rows = insert_all bytes_eq base rows

abbrev pub first_of : Option Edges → Option Edges → Option Edges
first_of (Some row) other = Some row
first_of None other = other

absent : (k : List ℕ) (rows : Entries) → AllByRecursion (λ z. bytes_eq k z ≡ false) (keys_of rows) → lookup (bytes_eq k) rows ≡ None
absent k [] h = refl
absent k (e ∷ rows) h = ap (λ b. cond b (Some e.1) (lookup (bytes_eq k) rows)) h.0 ∙ absent k rows h.1

pub lookup-laid : (base rows : Entries) (u : List ℕ) → IsDistinct bytes_eq (keys_of rows) → lookup (bytes_eq u) (laid base rows) ≡ first_of (lookup (bytes_eq u) rows) (lookup (bytes_eq u) base)
unfolding IsDistinct
lookup-laid base [] u d = refl
lookup-laid base (r ∷ rows) u d =
    lookup-laid (insert_entry bytes_eq base r.0 r.1) rows u d.1
    ∙ ap (first_of (lookup (bytes_eq u) rows)) (lookup-put base r.0 r.1 u ∙ ap (λ b. cond b (Some r.1) (lookup (bytes_eq u) base)) (symm r.0 u))
    ∙ by (bytes_eq u r.0) refl
  where
    by : (b : Bool) → bytes_eq u r.0 ≡ b → first_of (lookup (bytes_eq u) rows) (cond b (Some r.1) (lookup (bytes_eq u) base)) ≡ first_of (cond b (Some r.1) (lookup (bytes_eq u) rows)) (lookup (bytes_eq u) base)
    by true e = ap (λ o. first_of o (Some r.1)) (ap (λ n. lookup (bytes_eq n) rows) (same_bytes u r.0 e) ∙ absent r.0 rows d.0)
    by false e = refl

apart-laid : (base rows : Entries) → IsDistinct bytes_eq (keys_of base) → IsDistinct bytes_eq (keys_of (laid base rows))
apart-laid base [] d = d
apart-laid base (r ∷ rows) d = apart-laid (insert_entry bytes_eq base r.0 r.1) rows (apart-put base r.0 r.1 d)

pub keys-laid : (base rows : Entries) → IsDistinct bytes_eq (keys_of rows) → keys_of (laid base rows) ≡ keys_of base ++ new_names (keys_of base) (keys_of rows)
keys-laid base rows d = keys_insert_all bytes_eq base rows ∙ set-new (keys_of base) (keys_of rows) d

-- a name that is there already leaves the vertices
keys-put : (base rows : Entries) (x : List ℕ) (row : Edges) → is_known (laid base rows) x ≡ true → keys_of (laid base (insert_entry bytes_eq rows x row)) ≡ keys_of (laid base rows)
keys-put base rows x row h =
    keys_insert_all bytes_eq base (insert_entry bytes_eq rows x row)
    ∙ ap (set_all bytes_eq (keys_of base)) (keys_insert_entry bytes_eq rows x row)
    ∙ by (list_any (bytes_eq x) (keys_of rows)) refl
    ∙ sym (keys_insert_all bytes_eq base rows)
  where
    by : (b : Bool) → list_any (bytes_eq x) (keys_of rows) ≡ b → set_all bytes_eq (keys_of base) (insert_key bytes_eq (keys_of rows) x) ≡ set_all bytes_eq (keys_of base) (keys_of rows)
    by true e = ap (λ b. set_all bytes_eq (keys_of base) (if b then keys_of rows else keys_of rows ++ x ∷ [])) e
    by false e =
        ap (λ b. set_all bytes_eq (keys_of base) (if b then keys_of rows else keys_of rows ++ x ∷ [])) e
        ∙ set-push (keys_of base) (keys_of rows) x
        ∙ ap (λ b. if b then set_all bytes_eq (keys_of base) (keys_of rows) else set_all bytes_eq (keys_of base) (keys_of rows) ++ x ∷ []) (sym (ap (list_any (bytes_eq x)) (keys_insert_all bytes_eq base rows)) ∙ h)

module _ (base rows : Entries) (g : IsGraph base) (a : AreRows rows) where
  known-base : (v : List ℕ) → is_known base v ≡ true → is_known (laid base rows) v ≡ true
  known-base v h = sym (is_some-lookup (bytes_eq v) (laid base rows)) ∙ ap is_some (lookup-laid base rows v a.apart) ∙ by (lookup (bytes_eq v) rows)
    where
      by : (o : Option Edges) → is_some (first_of o (lookup (bytes_eq v) base)) ≡ true
      by (Some row) = refl
      by None = is_some-lookup (bytes_eq v) base ∙ h

  edge-laid : (u v : List ℕ) → has_edge (laid base rows) u v ≡ option_map_or (λ row. is_target row v) (first_of (lookup (bytes_eq u) rows) (lookup (bytes_eq u) base)) false
  edge-laid u v = ap (λ o. option_map_or (λ row. is_target row v) o false) (lookup-laid base rows u a.apart)

  -- rows that fit make a graph
  pub graph-laid : ((u v : List ℕ) → has_edge rows u v ≡ true → is_known (laid base rows) v ≡ true) → IsGraph (laid base rows)
  graph-laid targets = record {
    apart = apart-laid base rows g.apart;
    known = λ u v h. known u v (lookup (bytes_eq u) rows) refl (sym (edge-laid u v) ∙ h);
    rows = λ u. subst (λ o. IfSome o IsRow) (sym (lookup-laid base rows u a.apart)) (row u (lookup (bytes_eq u) rows) refl);
    names = λ v k. name v (lookup (bytes_eq v) rows) refl (sym (ap is_some (lookup-laid base rows v a.apart)) ∙ is_some-lookup (bytes_eq v) (laid base rows) ∙ k);
  }
    where
      known : (u v : List ℕ) (o : Option Edges) → lookup (bytes_eq u) rows ≡ o → option_map_or (λ row. is_target row v) (first_of o (lookup (bytes_eq u) base)) false ≡ true → is_known (laid base rows) v ≡ true
      known u v (Some row) e h = targets u v (ap (λ o. option_map_or (λ row. is_target row v) o false) e ∙ h)
      known u v None e h = known-base v (g.known u v h)

      row : (u : List ℕ) (o : Option Edges) → lookup (bytes_eq u) rows ≡ o → IfSome (first_of o (lookup (bytes_eq u) base)) IsRow
      row u (Some r) e = subst (λ o. IfSome o IsRow) e (a.rows u)
      row u None e = g.rows u

      name : (v : List ℕ) (o : Option Edges) → lookup (bytes_eq v) rows ≡ o → is_some (first_of o (lookup (bytes_eq v) base)) ≡ true → IsName v
      name v (Some r) e h = a.names v (known-some rows v r e)
      name v None e h = g.names v (sym (is_some-lookup (bytes_eq v) base) ∙ h)

  -- and rows that make a graph fit
  pub targets-from_graph : IsGraph (laid base rows) → (u v : List ℕ) → has_edge rows u v ≡ true → is_known (laid base rows) v ≡ true
  targets-from_graph whole u v h = whole.known u v (edge-laid u v ∙ by (lookup (bytes_eq u) rows) refl h)
    where
      by : (o : Option Edges) → lookup (bytes_eq u) rows ≡ o → option_map_or (λ row. is_target row v) o false ≡ true → option_map_or (λ row. is_target row v) (first_of o (lookup (bytes_eq u) base)) false ≡ true
      by (Some row) e h = h
      by None e h = absurd (true≢false (sym h))

length-keys : (es : Entries) → length (keys_of es) ≡ length es
length-keys es = length-map es (λ (e : List ℕ × Edges). e.0)

cond-first : (b : Bool) (x : Edges) (o p : Option Edges) → first_of (cond b (Some x) o) p ≡ cond b (Some x) (first_of o p)
cond-first true x o p = refl
cond-first false x o p = refl

-- ---- a row that is put in, where there is one and where there is none
module _ (base rows : Entries) (x : List ℕ) (d : IsDistinct bytes_eq (keys_of rows)) where
  pub known-below : None ≡ lookup (bytes_eq x) rows → is_known (laid base rows) x ≡ true → is_known base x ≡ true
  known-below e h =
      sym (is_some-lookup (bytes_eq x) base)
      ∙ ap (λ o. is_some (first_of o (lookup (bytes_eq x) base))) e
      ∙ sym (ap is_some (lookup-laid base rows x d))
      ∙ is_some-lookup (bytes_eq x) (laid base rows) ∙ h

  pub laid-there : (row : Edges) → Some row ≡ lookup (bytes_eq x) rows → Some row ≡ lookup (bytes_eq x) (laid base rows)
  laid-there row e = sym (lookup-laid base rows x d ∙ ap (λ o. first_of o (lookup (bytes_eq x) base)) (sym e))

  pub laid-below : None ≡ lookup (bytes_eq x) rows → lookup (bytes_eq x) base ≡ lookup (bytes_eq x) (laid base rows)
  laid-below e = sym (lookup-laid base rows x d ∙ ap (λ o. first_of o (lookup (bytes_eq x) base)) (sym e))

  module _ {P : Edges → Edges → Type 0} (new : Entries) (row after : Edges) where
    pub puts-there : Some row ≡ lookup (bytes_eq x) rows → new ≡ set_value (bytes_eq x) rows after → P row after → IsRow after → PutsRow P base rows new x
    puts-there e put changed r = record {
      before = row;
      after = after;
      found = lookup-laid base rows x d ∙ ap (λ o. first_of o (lookup (bytes_eq x) base)) (sym e);
      put = put ∙ put-set rows x after (known-some rows x row (sym e));
      changed = changed;
      row = r;
    }

    pub puts-first : None ≡ lookup (bytes_eq x) rows → lookup (bytes_eq x) base ≡ Some row → new ≡ insert_entry bytes_eq rows x after → P row after → IsRow after → PutsRow P base rows new x
    puts-first e below put changed r = record {
      before = row;
      after = after;
      found = lookup-laid base rows x d ∙ ap (λ o. first_of o (lookup (bytes_eq x) base)) (sym e) ∙ below;
      put = put;
      changed = changed;
      row = r;
    }

-- how much longer the rows get
length-put : (es : Entries) (k : List ℕ) (v : Edges) → length es ≤ length (insert_entry bytes_eq es k v)
length-put [] k v = omega arith
length-put (e ∷ es) k v = by (bytes_eq k e.0) (length-put es k v)
  where
    by : (b : Bool) → length es ≤ length (insert_entry bytes_eq es k v) → length (e ∷ es) ≤ length (if b then (e.0, v) ∷ es else e ∷ insert_entry bytes_eq es k v)
    by true h = omega arith
    by false h = omega (arith, h)

length-put_all : (es rows : Entries) → length es ≤ length (laid es rows)
length-put_all es [] = omega arith
length-put_all es (r ∷ rows) = omega (arith, length-put es r.0 r.1, length-put_all (insert_entry bytes_eq es r.0 r.1) rows)

-- where there is room for what rows lead to, there is room for the first of them
pub room-first : (es : Entries) (k : List ℕ) (v : Edges) (rows : Entries) (spare : ℕ) → length (laid es ((k, v) ∷ rows)) ≤ length es + spare → is_known es k ≡ false → 0 < spare
room-first es k v rows spare room new =
    omega (arith, room, length-put_all (insert_entry bytes_eq es k v) rows, ap length (put-new es k v new), length-append es ((k, v) ∷ []))

-- rows that are all new go last
laid-last : (front rows : Entries) → IsDistinct bytes_eq (keys_of rows) → ((v : List ℕ) → is_among (keys_of rows) v ≡ true → is_known front v ≡ false) → laid front rows ≡ front ++ rows
unfolding IsDistinct
laid-last front [] d h = sym (append-nil front)
laid-last front (r ∷ rows) d h =
    ap (λ es. laid es rows) (put-new front r.0 r.1 (h r.0 (ap (λ b. b || is_among (keys_of rows) r.0) (nat_list_eq_equiv.refl r.0))))
    ∙ laid-last (front ++ r ∷ []) rows d.1 (λ v m. ap (list_any (bytes_eq v)) (map-append (λ (e : List ℕ × Edges). e.0) front (r ∷ [])) ∙ list_any-append (bytes_eq v) (keys_of front) (r.0 ∷ []) ∙ by v m (bytes_eq v r.0) refl)
    ∙ append_assoc front (r ∷ []) rows
  where
    by : (v : List ℕ) → is_among (keys_of rows) v ≡ true → (b : Bool) → bytes_eq v r.0 ≡ b → (is_known front v || (bytes_eq v r.0 || false)) ≡ false
    by v m true e = absurd (true≢false (sym m ∙ ap (is_among (keys_of rows)) (same_bytes v r.0 e) ∙ not_among r.0 (keys_of rows) d.0))
    by v m false e =
        (λ i. h v (ap (λ b. bytes_eq v r.0 || b) m ∙ or-true (bytes_eq v r.0)) i || (e i || false))

pub laid-nothing : (rows : Entries) → IsDistinct bytes_eq (keys_of rows) → laid [] rows ≡ rows
laid-nothing rows d = laid-last [] rows d (λ v m. refl)

pub on_ok_both : {T E P Q R : Type 0} (r : Result T E) → (P → Q → R) → OnOk r P → OnOk r Q → OnOk r R
on_ok_both (Ok x) f p q = f p q
on_ok_both (Err e) f p q = tt

-- no rows fit each base
pub fits-none : (base : Entries) → Fits base ([], [])
fits-none base = record { vertices = sym (append-nil (keys_of base)); targets = λ u v h. absurd (true≢false (sym h)) }

-- the created names are those of the rows that the base lacks
pub created-new : (base : Entries) (d : Changes) → IsDistinct bytes_eq (keys_of d.0) → Fits base d → new_names (keys_of base) (keys_of d.0) ≡ d.1
created-new base d apart f = append_cancel_left (keys_of base) _ _ (sym (keys-laid base d.0 apart) ∙ f.vertices)

pub is_created-new : (base : Entries) (d : Changes) → IsDistinct bytes_eq (keys_of d.0) → Fits base d → (v : List ℕ) → is_created d v ≡ (not (is_known base v) && is_known d.0 v)
is_created-new base d apart f v =
    ap (λ names. is_among names v) (sym (created-new base d apart f)) ∙ among-filter (λ w. not (is_known base w)) (keys_of d.0) v

pub and-left : (a b : Bool) → b ≡ true → (a && b) ≡ a
and-left true b h = h
and-left false b h = refl

-- rows that fit some base are a draft
pub draft-from_fits : (base : Entries) (d : Changes) → AreRows d.0 → Fits base d → IsDraft d
draft-from_fits base d a f = record {
  rows = a;
  created =
      filter-alike (is_created d) (λ v. not (is_known base v)) (keys_of d.0) (λ v m. is_created-new base d a.apart f v ∙ and-left (not (is_known base v)) (is_known d.0 v) m)
      ∙ created-new base d a.apart f;
}

pub draft-none : IsDraft ([], [])
unfolding IsDistinct
draft-none = record { rows = record { apart = tt; rows = λ u. tt; names = λ v h. absurd (true≢false (sym h)) }; created = refl }

-- how many vertices there are
pub length-laid : (base : Entries) (d : Changes) → Fits base d → length (laid_over base d) ≡ length base + length d.1
length-laid base d f = omega (arith, length-keys (laid_over base d), ap length f.vertices, length-append (keys_of base) d.1, length-keys base)

-- ---- a draft's steps
module _ (base : Entries) (g : IsGraph base) (old : Entries) (a : AreRows old) (names : List (List ℕ)) (f : Fits base (old, names)) where
  pub whole-graph : IsGraph (laid base old)
  whole-graph = graph-laid base old g a f.targets

  module _ {P : Edges → Edges → Type 0} (new : Entries) (x : List ℕ) (p : PutsRow P base old new x) where
    known-x : is_known (laid base old) x ≡ true
    known-x = known-some (laid base old) x p.before p.found

    pub rows-put : AreRows new
    rows-put = subst AreRows (sym p.put) (are-put old x p.after a p.row (whole-graph.names x known-x))

    pub alters-laid : AltersRow P (laid base old) (laid base new) x
    alters-laid = record {
      before = p.before;
      after = p.after;
      found = p.found;
      keys = ap (λ rows. keys_of (laid base rows)) p.put ∙ keys-put base old x p.after known-x;
      rows = λ u.
          lookup-laid base new u rows-put.apart
          ∙ ap (λ o. first_of o (lookup (bytes_eq u) base)) (ap (lookup (bytes_eq u)) p.put ∙ lookup-put old x p.after u)
          ∙ cond-first (bytes_eq x u) p.after (lookup (bytes_eq u) old) (lookup (bytes_eq u) base)
          ∙ ap (λ o. cond (bytes_eq x u) (Some p.after) o) (sym (lookup-laid base old u a.apart));
      changed = p.changed;
      row = p.row;
    }

    fits-put : IsGraph (laid base new) → Fits base (new, names)
    fits-put whole = record {
      vertices = alters-laid.keys ∙ f.vertices;
      targets = targets-from_graph base new g rows-put whole;
    }

    -- its name is among those of the rows, the last where it was not there
    pub keys-row : keys_of new ≡ insert_key bytes_eq (keys_of old) x
    keys-row = ap keys_of p.put ∙ keys_insert_entry bytes_eq old x p.after

  module _ (new : Entries) (x y : List ℕ) (s : Rights) where
    pub fits-adds : PutsRow (λ b c. Adds b c y s) base old new x → is_known (laid base old) y ≡ true → Fits base (new, names)
    fits-adds p k = fits-put new x p (is_graph-adds (laid base old) (laid base new) x y s (alters-laid new x p) whole-graph k)

    pub laid-adds : PutsRow (λ b c. Adds b c y s) base old new x → graph_of (laid base new) ≡ with_rights (graph_of (laid base old)) x y s
    laid-adds p = graph-adds (laid base old) (laid base new) x y s (alters-laid new x p)

    pub fits-takes : PutsRow (λ b c. TakesAway b c y s) base old new x → Fits base (new, names)
    fits-takes p = fits-put new x p (is_graph-takes (laid base old) (laid base new) x y s (alters-laid new x p) whole-graph)

    pub laid-takes : PutsRow (λ b c. TakesAway b c y s) base old new x → graph_of (laid base new) ≡ without_rights (graph_of (laid base old)) x y s
    laid-takes p = graph-takes (laid base old) (laid base new) x y s (alters-laid new x p)

    pub draft-adds : PutsRow (λ b c. Adds b c y s) base old new x → is_known (laid base old) y ≡ true → IsDraft (new, names)
    draft-adds p k = draft-from_fits base (new, names) (rows-put new x p) (fits-adds p k)

    pub draft-takes : PutsRow (λ b c. TakesAway b c y s) base old new x → IsDraft (new, names)
    draft-takes p = draft-from_fits base (new, names) (rows-put new x p) (fits-takes p)

  -- a vertex v is created, over which x has the rights of s
  module _ (mid new : Entries) (x v : List ℕ) (s : Rights) (p : PutsRow (λ b c. Adds b c v s) base old mid x) (last : new ≡ insert_entry bytes_eq mid v []) (fresh : is_known (laid base old) v ≡ false) (name : IsName v) where
    fresh-laid : is_known (laid base mid) v ≡ false
    fresh-laid = ap (list_any (bytes_eq v)) (alters-laid mid x p).keys ∙ fresh

    none-laid : lookup (bytes_eq v) mid ≡ None
    none-laid = by (lookup (bytes_eq v) mid) refl
      where
        by : (o : Option Edges) → lookup (bytes_eq v) mid ≡ o → o ≡ None
        by None e = refl
        by (Some row) e = absurd (true≢false (sym (known-some (laid base mid) v row (lookup-laid base mid v (rows-put mid x p).apart ∙ ap (λ o. first_of o (lookup (bytes_eq v) base)) e)) ∙ fresh-laid))

    fresh-mid : is_known mid v ≡ false
    fresh-mid = sym (is_some-lookup (bytes_eq v) mid) ∙ ap is_some none-laid

    laid-created : laid base new ≡ laid base mid ++ (v, []) ∷ []
    laid-created =
        ap (laid base) (last ∙ put-new mid v [] fresh-mid)
        ∙ insert_all_push bytes_eq base mid (v, [])
        ∙ put-new (laid base mid) v [] fresh-laid

    pub rows-created : AreRows new
    rows-created = subst AreRows (sym last) (are-put mid v [] (rows-put mid x p) (row_none [] refl) name)

    pub keys-created : keys_of new ≡ set_all bytes_eq (keys_of old) (x ∷ v ∷ [])
    keys-created = ap keys_of last ∙ keys_insert_entry bytes_eq mid v [] ∙ ap (λ ks. insert_key bytes_eq ks v) (keys-row mid x p)

    pub laid-creates : graph_of (laid base new) ≡ with_rights (with_vertex (graph_of (laid base old)) v) x v s
    laid-creates = ap graph_of laid-created ∙ graph-creates v x s (laid base old) (laid base mid) (alters-laid mid x p)

    pub fits-creates : Fits base (new, names ++ v ∷ [])
    fits-creates = record {
      vertices =
          ap keys_of laid-created
          ∙ map-append (λ (e : List ℕ × Edges). e.0) (laid base mid) ((v, []) ∷ [])
          ∙ ap (λ ks. ks ++ v ∷ []) ((alters-laid mid x p).keys ∙ f.vertices)
          ∙ append_assoc (keys_of base) names (v ∷ []);
      targets = targets-from_graph base new g rows-created (subst IsGraph (sym laid-created) (is_graph-creates v x s (laid base old) (laid base mid) (alters-laid mid x p) whole-graph fresh name));
    }

    pub draft-created : IsDraft (new, names ++ v ∷ [])
    draft-created = draft-from_fits base (new, names ++ v ∷ []) rows-created fits-creates
