-- What a change of one row, or one more vertex, does to the graph.
use Rattle.std.proofs.Common.{◌≡◌, ℕ, Bool, true, false, cond, List, [], ◌∷◌, ◌++◌, Option, Some, None, refl, sym, ap, subst, ◌∙◌, bytes_eq, IfSome, ◌&&◌, ◌||◌, not, unwrap_or, is_some, true≢false, MatchBool}
use Rattle.std.specs.Option.{option_map_or}
use Rattle.std.proofs.Math.Bool.{or-false, or-true, and-true}
use Rattle.std.specs.List.{list_any}
use Rattle.std.specs.Map.{keys_of, lookup, set_value}
use Rattle.std.specs.Cmp.Lexicographic.{nat_list_eq_equiv}
use Rattle.std.proofs.lemmas.Map.{lookup-set_value, keys-set_value}
use Rattle.std.proofs.lemmas.Map.Made.{is_some-lookup}
use Rattle.std.proofs.lemmas.Map.Steps.{set_value_same}
use Rattle.std.specs.List.{IsDistinct}
use Rattle.tg_names.specs.declared.right_sets.Right.{Right}
use Rattle.tg_names.specs.declared.right_sets.Rights.{Rights}
use Rattle.tg_names.specs.Sets.{member, nothing}
use Rattle.tg_rows.specs.Rows.{Edges, Entries, Adds, TakesAway, ChangesRow, IsGraph, IsRow, label_in, label_of, is_target, has_edge, is_known}
use Rattle.tg_names.specs.Names.{IsName}
use Rattle.tg_graph.specs.Graphs.{WellFormed}
use Rattle.tg_graph.specs.GraphOf.{graph_of}
use Rattle.tg_graph.specs.Rules.{with_edge, without_edge, with_rights, without_rights, with_vertex}
use Rattle.tg_rows.proofs.Rows.{symm, same_bytes, row_none}
use Rattle.tg_names.proofs.Sets.{member-nothing}
use Rattle.std.proofs.lemmas.List.{map-append}
use Rattle.std.proofs.lemmas.List.Folds.{list_any-append}
use Rattle.std.proofs.lemmas.Map.Keys.{IsDistinct-push}

-- the row of x changes to one that the fact P ties to it, and each other row stays
pub record AltersRow (P : Edges → Edges → Type 0) (old new : Entries) (x : List ℕ) : Type 0 where
  pub before : Edges
  pub after : Edges
  pub found : lookup (bytes_eq x) old ≡ Some before
  pub keys : keys_of new ≡ keys_of old
  pub rows : (u : List ℕ) → lookup (bytes_eq u) new ≡ cond (bytes_eq x u) (Some after) (lookup (bytes_eq u) old)
  pub changed : P before after
  pub row : IsRow after

pub alters : {P : Edges → Edges → Type 0} {old new : Entries} {x : List ℕ} → ChangesRow P old new x → AltersRow P old new x
alters {old = old} {x = x} c = record {
  before = c.before;
  after = c.after;
  found = c.found;
  keys = ap keys_of c.put ∙ keys-set_value (bytes_eq x) old c.after;
  rows = λ u. ap (lookup (bytes_eq u)) c.put ∙ lookup-set_value nat_list_eq_equiv (bytes_eq x) (nat_list_eq_equiv.congr x) u c.after old (ap is_some c.found);
  changed = c.changed;
  row = c.row;
}

-- the row of x is found, and put back as it is now
module _ (old new : Entries) (x : List ℕ) (row after : Edges) (found : Some row ≡ lookup (bytes_eq x) old) (put : new ≡ set_value (bytes_eq x) old after) where
  pub changes-found : {P : Edges → Edges → Type 0} → P row after → IsRow after → ChangesRow P old new x
  changes-found changed r = record {
    before = row;
    after = after;
    found = sym found;
    put = put;
    changed = changed;
    row = r;
  }

  pub same-found : after ≡ row → new ≡ old
  same-found e = put ∙ ap (set_value (bytes_eq x) old) e ∙ set_value_same (bytes_eq x) old row (sym found)

  pub joins-found : (P : Edges → Edges → Type 0) (added : Bool) → MatchBool added (P row after) (after ≡ row) → IsRow after → MatchBool added (ChangesRow P old new x) (new ≡ old)
  joins-found P true changed r = changes-found changed r
  joins-found P false e r = same-found e

module _ {P : Edges → Edges → Type 0} (old new : Entries) (x : List ℕ) (c : AltersRow P old new x) where
  pub row-changed : (u : List ℕ) → lookup (bytes_eq u) new ≡ cond (bytes_eq x u) (Some c.after) (lookup (bytes_eq u) old)
  row-changed = c.rows

  pub keys-changed : keys_of new ≡ keys_of old
  keys-changed = c.keys

  here : (u : List ℕ) → bytes_eq x u ≡ true → lookup (bytes_eq u) new ≡ Some c.after
  here u e = row-changed u ∙ ap (λ b. cond b (Some c.after) (lookup (bytes_eq u) old)) e

  was : (u : List ℕ) → bytes_eq x u ≡ true → lookup (bytes_eq u) old ≡ Some c.before
  was u e = ap (λ k. lookup (bytes_eq k) old) (sym (same_bytes x u e)) ∙ c.found

  away : (u : List ℕ) → bytes_eq x u ≡ false → lookup (bytes_eq u) new ≡ lookup (bytes_eq u) old
  away u e = row-changed u ∙ ap (λ b. cond b (Some c.after) (lookup (bytes_eq u) old)) e

  rows-changed : ((u : List ℕ) → IfSome (lookup (bytes_eq u) old) IsRow) → (u : List ℕ) → IfSome (lookup (bytes_eq u) new) IsRow
  rows-changed h u = by (bytes_eq x u) refl
    where
      by : (b : Bool) → bytes_eq x u ≡ b → IfSome (lookup (bytes_eq u) new) IsRow
      by true e = subst (λ o. IfSome o IsRow) (sym (here u e)) c.row
      by false e = subst (λ o. IfSome o IsRow) (sym (away u e)) (h u)

  names-changed : ((v : List ℕ) → is_known old v ≡ true → IsName v) → (v : List ℕ) → is_known new v ≡ true → IsName v
  names-changed h v k = h v (sym (ap (list_any (bytes_eq v)) keys-changed) ∙ k)

module _ (old new : Entries) (x y : List ℕ) (s : Rights) (c : AltersRow (λ a b. Adds a b y s) old new x) where
  holds-adds : (u : List ℕ) (right : Right) (v : List ℕ) → (graph_of new).holds u right v ≡ with_edge (graph_of old).holds x y s u right v
  holds-adds u right v = by (bytes_eq x u) refl
    where
      by : (b : Bool) → bytes_eq x u ≡ b → (graph_of new).holds u right v ≡ with_edge (graph_of old).holds x y s u right v
      by true e =
          ap (λ o. member (option_map_or (λ row. label_in row v) o nothing) right) (here old new x c u e)
          ∙ c.changed.members v right
          ∙ (λ i. member (option_map_or (λ row. label_in row v) (sym (was old new x c u e) i) nothing) right || (sym (symm u x ∙ e) i && bytes_eq v y && member s right))
      by false e =
          ap (λ o. member (option_map_or (λ row. label_in row v) o nothing) right) (away old new x c u e)
          ∙ sym (or-false (member (label_of old u v) right))
          ∙ (λ i. member (label_of old u v) right || (sym (symm u x ∙ e) i && bytes_eq v y && member s right))

  pub graph-adds : graph_of new ≡ with_rights (graph_of old) x y s
  graph-adds = λ i. record { vertices = keys-changed old new x c i; holds = λ u right v. holds-adds u right v i }

  edges-adds : (u v : List ℕ) → has_edge new u v ≡ true → (has_edge old u v || bytes_eq v y) ≡ true
  edges-adds u v h = by (bytes_eq x u) refl
    where
      by : (b : Bool) → bytes_eq x u ≡ b → (has_edge old u v || bytes_eq v y) ≡ true
      by true e =
          ap (λ o. option_map_or (λ row. is_target row v) o false || bytes_eq v y) (was old new x c u e)
          ∙ c.changed.targets v (sym (ap (λ o. option_map_or (λ row. is_target row v) o false) (here old new x c u e)) ∙ h)
      by false e =
          ap (λ b. b || bytes_eq v y) (sym (ap (λ o. option_map_or (λ row. is_target row v) o false) (away old new x c u e)) ∙ h)

  pub is_graph-adds : IsGraph old → is_known old y ≡ true → IsGraph new
  is_graph-adds g k = record {
    apart = subst (IsDistinct bytes_eq) (sym (keys-changed old new x c)) g.apart;
    known = λ u v h. ap (list_any (bytes_eq v)) (keys-changed old new x c) ∙ by u v (has_edge old u v) (bytes_eq v y) refl refl (edges-adds u v h);
    rows = rows-changed old new x c g.rows;
    names = names-changed old new x c g.names;
  }
    where
      by : (u v : List ℕ) (a b : Bool) → has_edge old u v ≡ a → bytes_eq v y ≡ b → (a || b) ≡ true → is_known old v ≡ true
      by u v true b p q h = g.known u v p
      by u v false true p q h = ap (is_known old) (same_bytes v y q) ∙ k
      by u v false false p q h = absurd (true≢false (sym h))

module _ (old new : Entries) (x y : List ℕ) (s : Rights) where
  pub graph-joined : (added : Bool) → MatchBool added (ChangesRow (λ a b. Adds a b y s) old new x) (new ≡ old) → MatchBool added (graph_of new ≡ with_rights (graph_of old) x y s) (new ≡ old)
  graph-joined true c = graph-adds old new x y s (alters c)
  graph-joined false e = e

  pub is_graph-joined : (added : Bool) → MatchBool added (ChangesRow (λ a b. Adds a b y s) old new x) (new ≡ old) → IsGraph old → is_known old y ≡ true → IsGraph new
  is_graph-joined true c g k = is_graph-adds old new x y s (alters c) g k
  is_graph-joined false e g k = subst IsGraph (sym e) g

-- ---- one more vertex
module _ (n : List ℕ) where
  abbrev pushed : Entries → Entries
  pushed es = es ++ (n, []) ∷ []

  label-none : (u v : List ℕ) (b : Bool) → option_map_or (λ (row : Edges). label_in row v) (cond b (Some []) None) nothing ≡ nothing
  label-none u v true = refl
  label-none u v false = refl

  pub label_of-pushed : (es : Entries) (u v : List ℕ) → label_of (pushed es) u v ≡ label_of es u v
  label_of-pushed [] u v = label-none u v (bytes_eq u n)
  label_of-pushed (e ∷ es) u v =
      elim (bytes_eq u e.0) as (λ b. option_map_or (λ (row : Edges). label_in row v) (cond b (Some e.1) (lookup (bytes_eq u) (pushed es))) nothing ≡ option_map_or (λ (row : Edges). label_in row v) (cond b (Some e.1) (lookup (bytes_eq u) es)) nothing) [
        | true ↦ refl
        | false ↦ label_of-pushed es u v
      ]

  edge-none : (u v : List ℕ) (b : Bool) → option_map_or (λ (row : Edges). is_target row v) (cond b (Some []) None) false ≡ false
  edge-none u v true = refl
  edge-none u v false = refl

  pub has_edge-pushed : (es : Entries) (u v : List ℕ) → has_edge (pushed es) u v ≡ has_edge es u v
  has_edge-pushed [] u v = edge-none u v (bytes_eq u n)
  has_edge-pushed (e ∷ es) u v =
      elim (bytes_eq u e.0) as (λ b. option_map_or (λ (row : Edges). is_target row v) (cond b (Some e.1) (lookup (bytes_eq u) (pushed es))) false ≡ option_map_or (λ (row : Edges). is_target row v) (cond b (Some e.1) (lookup (bytes_eq u) es)) false) [
        | true ↦ refl
        | false ↦ has_edge-pushed es u v
      ]

  row-none : (b : Bool) → IfSome (cond b (Some []) None) IsRow
  row-none true = row_none [] refl
  row-none false = tt

  rows-pushed : (es : Entries) (u : List ℕ) → IfSome (lookup (bytes_eq u) es) IsRow → IfSome (lookup (bytes_eq u) (pushed es)) IsRow
  rows-pushed [] u h = row-none (bytes_eq u n)
  rows-pushed (e ∷ es) u h =
      (elim (bytes_eq u e.0) as (λ b. IfSome (cond b (Some e.1) (lookup (bytes_eq u) es)) IsRow → IfSome (cond b (Some e.1) (lookup (bytes_eq u) (pushed es))) IsRow) [
        | true ↦ λ k. k
        | false ↦ λ k. rows-pushed es u k
      ]) h

  keys-pushed : (es : Entries) → keys_of (pushed es) ≡ keys_of es ++ n ∷ []
  keys-pushed es = map-append (λ (e : List ℕ × Edges). e.0) es ((n, []) ∷ [])

  known-pushed : (es : Entries) (v : List ℕ) → is_known (pushed es) v ≡ (is_known es v || bytes_eq v n)
  known-pushed es v = ap (list_any (bytes_eq v)) (keys-pushed es) ∙ list_any-append (bytes_eq v) (keys_of es) (n ∷ []) ∙ ap (λ b. is_known es v || b) (or-false (bytes_eq v n))

  pub graph-pushed : (es : Entries) → graph_of (pushed es) ≡ with_vertex (graph_of es) n
  graph-pushed es = λ i. record { vertices = keys-pushed es i; holds = λ u right v. member (label_of-pushed es u v i) right }

  -- an edge to n may be there before n is
  pub is_graph-pushed : (es : Entries) → IsDistinct bytes_eq (keys_of es) → ((u v : List ℕ) → has_edge es u v ≡ true → (is_known es v || bytes_eq v n) ≡ true) → ((u : List ℕ) → IfSome (lookup (bytes_eq u) es) IsRow) → is_known es n ≡ false → IsName n → ((v : List ℕ) → is_known es v ≡ true → IsName v) → IsGraph (pushed es)
  is_graph-pushed es apart known rows fresh name names = record {
    apart = subst (IsDistinct bytes_eq) (sym (keys-pushed es)) (IsDistinct-push nat_list_eq_equiv (keys_of es) n apart fresh);
    known = λ u v h. known-pushed es v ∙ known u v (sym (has_edge-pushed es u v) ∙ h);
    rows = λ u. rows-pushed es u (rows u);
    names = λ v k. named v (is_known es v) (bytes_eq v n) refl refl (sym (known-pushed es v) ∙ k);
  }
    where
      named : (v : List ℕ) (a b : Bool) → is_known es v ≡ a → bytes_eq v n ≡ b → (a || b) ≡ true → IsName v
      named v true b p q h = names v p
      named v false true p q h = subst IsName (sym (same_bytes v n q)) name
      named v false false p q h = absurd (true≢false (sym h))

  either_left : (a b : Bool) → a ≡ true → (a || b) ≡ true
  either_left a b e = ap (λ x. x || b) e

  pub is_graph-new_vertex : (es : Entries) → IsGraph es → is_known es n ≡ false → IsName n → IsGraph (pushed es)
  is_graph-new_vertex es g fresh name = is_graph-pushed es g.apart (λ u v h. either_left (is_known es v) (bytes_eq v n) (g.known u v h)) g.rows fresh name g.names

  module _ (x : List ℕ) (s : Rights) (old mid : Entries) (c : AltersRow (λ a b. Adds a b n s) old mid x) where
    pub graph-creates : graph_of (pushed mid) ≡ with_rights (with_vertex (graph_of old) n) x n s
    graph-creates = graph-pushed mid ∙ (λ i. record { vertices = keys-changed old mid x c i ++ n ∷ []; holds = (graph-adds old mid x n s c i).holds })

    pub is_graph-creates : IsGraph old → is_known old n ≡ false → IsName n → IsGraph (pushed mid)
    is_graph-creates g fresh name =
        is_graph-pushed mid (subst (IsDistinct bytes_eq) (sym (keys-changed old mid x c)) g.apart)
        (λ u v h. by u v (has_edge old u v) refl (edges-adds old mid x n s c u v h))
        (rows-changed old mid x c g.rows)
        (ap (list_any (bytes_eq n)) (keys-changed old mid x c) ∙ fresh) name (names-changed old mid x c g.names)
      where
        by : (u v : List ℕ) (a : Bool) → has_edge old u v ≡ a → (a || bytes_eq v n) ≡ true → (is_known mid v || bytes_eq v n) ≡ true
        by u v true p h = either_left (is_known mid v) (bytes_eq v n) (ap (list_any (bytes_eq v)) (keys-changed old mid x c) ∙ g.known u v p)
        by u v false p h = ap (λ b. is_known mid v || b) h ∙ or-true (is_known mid v)

-- ---- an edge with no rights adds nothing
pub with_edge-nothing : (holds : List ℕ → Right → List ℕ → Bool) (x y : List ℕ) (s : Rights) → s.0 ≡ 0 → with_edge holds x y s ≡ holds
with_edge-nothing holds x y s e = λ i u right v. by (holds u right v) (bytes_eq u x && bytes_eq v y) right i
  where
    none : (right : Right) → member s right ≡ false
    none right = ap (λ n. member (record { 0 = n }) right) e ∙ member-nothing right

    by : (a b : Bool) (right : Right) → (a || (b && member s right)) ≡ a
    by true b right = refl
    by false true right = none right
    by false false right = refl

-- ---- rights taken away
module _ (old new : Entries) (x y : List ℕ) (s : Rights) (c : AltersRow (λ a b. TakesAway a b y s) old new x) where
  holds-takes : (u : List ℕ) (right : Right) (v : List ℕ) → (graph_of new).holds u right v ≡ without_edge (graph_of old).holds x y s u right v
  holds-takes u right v = by (bytes_eq x u) refl
    where
      by : (b : Bool) → bytes_eq x u ≡ b → (graph_of new).holds u right v ≡ without_edge (graph_of old).holds x y s u right v
      by true e =
          ap (λ o. member (option_map_or (λ row. label_in row v) o nothing) right) (here old new x c u e)
          ∙ c.changed.members v right
          ∙ (λ i. member (option_map_or (λ row. label_in row v) (sym (was old new x c u e) i) nothing) right && not (sym (symm u x ∙ e) i && bytes_eq v y && member s right))
      by false e =
          ap (λ o. member (option_map_or (λ row. label_in row v) o nothing) right) (away old new x c u e)
          ∙ sym (and-true (member (label_of old u v) right))
          ∙ (λ i. member (label_of old u v) right && not (sym (symm u x ∙ e) i && bytes_eq v y && member s right))

  pub graph-takes : graph_of new ≡ without_rights (graph_of old) x y s
  graph-takes = λ i. record { vertices = keys-changed old new x c i; holds = λ u right v. holds-takes u right v i }

  edges-takes : (u v : List ℕ) → has_edge new u v ≡ true → has_edge old u v ≡ true
  edges-takes u v h = by (bytes_eq x u) refl
    where
      by : (b : Bool) → bytes_eq x u ≡ b → has_edge old u v ≡ true
      by true e =
          ap (λ o. option_map_or (λ row. is_target row v) o false) (was old new x c u e)
          ∙ c.changed.targets v (sym (ap (λ o. option_map_or (λ row. is_target row v) o false) (here old new x c u e)) ∙ h)
      by false e = sym (ap (λ o. option_map_or (λ row. is_target row v) o false) (away old new x c u e)) ∙ h

  pub is_graph-takes : IsGraph old → IsGraph new
  is_graph-takes g = record {
    apart = subst (IsDistinct bytes_eq) (sym (keys-changed old new x c)) g.apart;
    known = λ u v h. ap (list_any (bytes_eq v)) (keys-changed old new x c) ∙ g.known u v (edges-takes u v h);
    rows = rows-changed old new x c g.rows;
    names = names-changed old new x c g.names;
  }

-- ---- what each graph has
module _ (es : Entries) (g : IsGraph es) (u : List ℕ) (right : Right) (v : List ℕ) (h : (graph_of es).holds u right v ≡ true) where
  known_source : (o : Option Edges) → lookup (bytes_eq u) es ≡ o → is_known es u ≡ true
  known_source (Some row) e = sym (is_some-lookup (bytes_eq u) es) ∙ ap is_some e
  known_source None e = absurd (true≢false (sym h ∙ ap (λ o. member (option_map_or (λ row. label_in row v) o nothing) right) e ∙ member-nothing right))

  edge_there : (o : Option Edges) → lookup (bytes_eq u) es ≡ o → has_edge es u v ≡ true
  edge_there None e = absurd (true≢false (sym h ∙ ap (λ o. member (option_map_or (λ row. label_in row v) o nothing) right) e ∙ member-nothing right))
  edge_there (Some row) e = ap (λ o. option_map_or (λ row. is_target row v) o false) e ∙ by (lookup (bytes_eq v) row) (sym (ap (λ o. member (option_map_or (λ row. label_in row v) o nothing) right) e) ∙ h)
    where
      by : (o : Option Rights) → member (unwrap_or o nothing) right ≡ true → is_some o ≡ true
      by None m = absurd (true≢false (sym m ∙ member-nothing right))
      by (Some s) m = refl

pub well_formed : (es : Entries) → IsGraph es → WellFormed (graph_of es)
well_formed es g = record {
  names = g.names;
  ends = λ u right v h. (known_source es g u right v h (lookup (bytes_eq u) es) refl, g.known u v (edge_there es g u right v h (lookup (bytes_eq u) es) refl));
}
