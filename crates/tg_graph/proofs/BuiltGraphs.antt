-- Graphs whose edges out of some vertices wait.
use Rattle.std.proofs.Common.{◌≡◌, ℕ, ◌<◌, ◌≤◌, Bool, true, false, cond, List, [], ◌∷◌, length, get_or, set, Option, None, Some, IfSome, Result, Ok, Err, OnErr, refl, sym, ap, subst, ◌∙◌, bytes_eq, true≢false, arith, ◌&&◌, ◌||◌, not, zero, suc, ⊎_elim, ◌⊎◌, inl, inr}
use Rattle.std.specs.Prelude.{if◌then◌else◌, slice_get, position}
use Rattle.std.specs.Option.{option_map_or}
use Rattle.std.specs.List.{list_any, IsDistinct}
use Rattle.std.specs.Map.{keys_of, lookup}
use Rattle.std.specs.Cmp.Lexicographic.{nat_list_eq_equiv}
use Rattle.std.proofs.Math.Bool.{or-false}
use Rattle.std.proofs.lemmas.List.{get_or-set_same, get_or-set_other, length-map, length-set}
use Rattle.std.proofs.Math.ListN.{get_or-eq_default}
use Rattle.std.proofs.lemmas.Bool.{cases_lt}
use Rattle.std.proofs.lemmas.Option.{same_Some}
use Rattle.indexmap.specs.Layout.{set_value_at, length-set_value_at}
use Rattle.tg_names.specs.declared.right_sets.Right.{Right}
use Rattle.tg_names.specs.declared.right_sets.Rights.{Rights}
use Rattle.tg_graph.specs.declared.protection.EdgeFault.{EdgeFault}
use Rattle.tg_graph.specs.declared.protection.EdgeFault.TheVariants.{Memory, EdgeThere, Empty, Unknown}
use Rattle.tg_names.specs.Sets.{member, nothing, rights_where, is_empty_set, IsNamed}
use Rattle.tg_names.specs.Names.{Name}
use Rattle.tg_graph.specs.Graphs.{has_vertex}
use Rattle.tg_graph.specs.GraphOf.{graph_of}
use Rattle.tg_rows.specs.Rows.{Edges, Entries, IsRow, IsGraph, label_in, label_of, is_target, is_known}
use Rattle.tg_graph.specs.Rules.{with_edge, with_rights}
use Rattle.tg_graph.specs.Additions.{label_between, edge_fault_of, AddsEdge}
use Rattle.tg_graph.specs.Waiting.{item_of, label_for, waiting_of, waiting_or, label_built, graph_built, MayWait, HasMoved}
use Rattle.tg_rows.proofs.Rows.{symm, same_bytes}
use Rattle.tg_names.proofs.Sets.{member-nothing, where-member}
use Rattle.tg_graph.proofs.Positions.{at-position, among-at}
use Rattle.tg_graph.proofs.TakenOver.{position-at, set-at}
use Rattle.tg_graph.proofs.Drafts.{lookup-put}

-- ---- items by position
module _ {A : Type 0} (none : A) (names : List Name) (items : List A) where
  pub item-at : (place : ℕ) (y : Name) → IsDistinct bytes_eq names → slice_get names place ≡ Some y → item_of none names items y ≡ get_or items place none
  item-at place y apart at = ap (λ o. option_map_or (λ p. get_or items p none) o none) (position-at names place y apart at)

  -- what holds of each item and of none holds of that of a name
  pub item-each : (P : A → Type 0) → P none → ((k : ℕ) → P (get_or items k none)) → (y : Name) → P (item_of none names items y)
  item-each P n h y = by (position (bytes_eq y) names)
    where
      by : (o : Option ℕ) → P (option_map_or (λ p. get_or items p none) o none)
      by None = n
      by (Some p) = h p

  -- the item at one position changes
  module _ (place : ℕ) (y : Name) (item : A) (apart : IsDistinct bytes_eq names) (at : slice_get names place ≡ Some y) (within : place < length items) where
    pub set-here : (v : Name) → bytes_eq v y ≡ true → item_of none names (set items place item) v ≡ item
    set-here v e =
        ap (item_of none names (set items place item)) (same_bytes v y e)
        ∙ ap (λ o. option_map_or (λ p. get_or (set items place item) p none) o none) (position-at names place y apart at)
        ∙ get_or-set_same items place item none within

    pub set-away : (v : Name) → bytes_eq v y ≡ false → item_of none names (set items place item) v ≡ item_of none names items v
    set-away v e = by (position (bytes_eq v) names) refl
      where
        by : (o : Option ℕ) → position (bytes_eq v) names ≡ o → option_map_or (λ p. get_or (set items place item) p none) o none ≡ option_map_or (λ p. get_or items p none) o none
        by None q = refl
        by (Some p) q = get_or-set_other items place p item none (λ same.
            true≢false (sym (ap (bytes_eq v) (sym (same_Some v y (sym (at-position names v p q) ∙ ap (slice_get names) same ∙ at))) ∙ nat_list_eq_equiv.refl v) ∙ e))

pub inside : {A : Type 0} (lists : List (List A)) (k : ℕ) → 0 < length (get_or lists k []) → k < length lists
inside [] k h = absurd (omega arith)
inside (l ∷ lists) zero h = omega arith
inside (l ∷ lists) (suc k) h = omega (arith, inside lists k h)

-- labels that wait stand in place of the row's
waiting-full : (names : List Name) (labels : List Rights) (v : Name) (label : Rights) → 0 < length labels → waiting_or names labels v label ≡ label_for names labels v
waiting-full names [] v label h = absurd (omega arith)
waiting-full names (l ∷ labels) v label h = refl

-- ---- an edge that waits
module _ (es : Entries) (waits : List (List Rights)) (source : ℕ) (x : Name) (apart : IsDistinct bytes_eq (keys_of es)) (here : slice_get (keys_of es) source ≡ Some x) (some : 0 < length (get_or waits source [])) where
  abbrev names : List Name
  names = keys_of es

  abbrev labels : List Rights
  labels = get_or waits source []

  label-waits : (y : Name) → label_built es waits x y ≡ label_for names labels y
  label-waits y =
      ap (λ l. waiting_or names l y (label_of es x y)) (item-at [] names waits source x apart here)
      ∙ waiting-full names labels y (label_of es x y) some

  -- the label of the edge decides the fault
  pub fault-waits : (place : ℕ) (y : Name) (s : Rights) → slice_get names place ≡ Some y → IsNamed (get_or labels place nothing)
      → edge_fault_of (graph_built (es, waits)) x y s ≡ (if not (is_empty_set (get_or labels place nothing)) then Some EdgeThere else (if is_empty_set s then Some Empty else None))
  fault-waits place y s at named =
      let label : label_built es waits x y ≡ get_or labels place nothing = label-waits y ∙ item-at nothing names labels place y apart at in
      let between : label_between (graph_built (es, waits)) x y ≡ get_or labels place nothing =
      ap (λ l. rights_where (λ right. member l right)) label ∙ where-member (get_or labels place nothing) named in
      λ i. if not (among-at names x source here i) then Some (Unknown x) else (if not (among-at names y place at i) then Some (Unknown y) else (if not (is_empty_set (between i)) then Some EdgeThere else (if is_empty_set s then Some Empty else None)))

  pub built-waits : (place : ℕ) (y : Name) (s : Rights) → slice_get names place ≡ Some y → place < length labels → (get_or labels place nothing).0 ≡ 0
      → graph_built (es, set waits source (set labels place s)) ≡ with_rights (graph_built (es, waits)) x y s
  built-waits place y s at within empty = λ i. record { vertices = names; holds = λ u right v. holds u right v i }
    where
      none : (v : Name) (right : Right) → bytes_eq v y ≡ true → member (label_for names labels v) right ≡ false
      none v right e =
          ap (λ k. member (label_for names labels k) right) (same_bytes v y e)
          ∙ ap (λ l. member l right) (item-at nothing names labels place y apart at)
          ∙ ap (λ n. member (record { 0 = n }) right) empty
          ∙ member-nothing right

      -- the labels of x after it
      now : (u v : Name) → bytes_eq u x ≡ true → label_built es (set waits source (set labels place s)) u v ≡ label_for names (set labels place s) v
      now u v e =
          ap (λ l. waiting_or names l v (label_of es u v)) (set-here [] names waits source x (set labels place s) apart here (inside waits source some) u e)
          ∙ waiting-full names (set labels place s) v (label_of es u v) (omega (arith, length-set labels place s, some))

      was : (u v : Name) → bytes_eq u x ≡ true → label_built es waits u v ≡ label_for names labels v
      was u v e = ap (λ k. label_built es waits k v) (same_bytes u x e) ∙ label-waits v

      by : (u v : Name) (right : Right) (b c : Bool) → bytes_eq u x ≡ b → bytes_eq v y ≡ c
          → member (label_built es (set waits source (set labels place s)) u v) right ≡ (member (label_built es waits u v) right || (b && c && member s right))
      by u v right true true p q =
          ap (λ l. member l right) (now u v p ∙ set-here nothing names labels place y s apart at within v q)
          ∙ ap (λ a. a || member s right) (sym (ap (λ l. member l right) (was u v p) ∙ none v right q))
      by u v right true false p q =
          ap (λ l. member l right) (now u v p ∙ set-away nothing names labels place y s apart at within v q ∙ sym (was u v p))
          ∙ sym (or-false (member (label_built es waits u v) right))
      by u v right false c p q =
          ap (λ l. member (waiting_or names l v (label_of es u v)) right) (set-away [] names waits source x (set labels place s) apart here (inside waits source some) u p)
          ∙ sym (or-false (member (label_built es waits u v) right))

      holds : (u : Name) (right : Right) (v : Name) → (graph_built (es, set waits source (set labels place s))).holds u right v ≡ with_edge (graph_built (es, waits)).holds x y s u right v
      holds u right v = by u v right (bytes_eq u x) (bytes_eq v y) refl refl

-- ---- an edge of a vertex for which nothing waits
module _ (es new : Entries) (waits : List (List Rights)) (source : ℕ) (x y : Name) (s : Rights) (apart : IsDistinct bytes_eq (keys_of es)) (here : slice_get (keys_of es) source ≡ Some x) (idle : get_or waits source [] ≡ []) where
  waits-not : (u : Name) → bytes_eq u x ≡ true → waiting_of (keys_of es) waits u ≡ []
  waits-not u e = ap (waiting_of (keys_of es) waits) (same_bytes u x e) ∙ item-at [] (keys_of es) waits source x apart here ∙ idle

  label-aside : (u v : Name) (row : Rights) → bytes_eq u x ≡ true → waiting_or (keys_of es) (waiting_of (keys_of es) waits u) v row ≡ row
  label-aside u v row e = ap (λ l. waiting_or (keys_of es) l v row) (waits-not u e)

  fault-aside : edge_fault_of (graph_built (es, waits)) x y s ≡ edge_fault_of (graph_of es) x y s
  fault-aside =
      ap (λ l. if not (has_vertex (graph_of es) x) then Some (Unknown x) else (if not (has_vertex (graph_of es) y) then Some (Unknown y) else (if not (is_empty_set (rights_where (λ right. member l right))) then Some EdgeThere else (if is_empty_set s then Some Empty else None))))
      (label-aside x y (label_of es x y) (nat_list_eq_equiv.refl x))

  built-aside : graph_of new ≡ with_rights (graph_of es) x y s → graph_built (new, waits) ≡ with_rights (graph_built (es, waits)) x y s
  built-aside g = λ i. record { vertices = (g i).vertices; holds = λ u right v. holds u right v i }
    where
      changed : (u v : Name) (right : Right) → member (label_of new u v) right ≡ (member (label_of es u v) right || (bytes_eq u x && bytes_eq v y && member s right))
      changed u v right = ap (λ h. h.holds u right v) g

      by : (u v : Name) (right : Right) (b : Bool) → bytes_eq u x ≡ b → (l : List Rights) → (b ≡ true → l ≡ [])
          → member (waiting_or (keys_of es) l v (label_of new u v)) right ≡ (member (waiting_or (keys_of es) l v (label_of es u v)) right || (b && bytes_eq v y && member s right))
      by u v right b p [] h = changed u v right ∙ ap (λ b. member (label_of es u v) right || (b && bytes_eq v y && member s right)) p
      by u v right true p (l ∷ ls) h = absurd (not_empty (h refl))
        where
          not_empty : l ∷ ls ≡ [] → ⊥
          not_empty e = cc
      by u v right false p (l ∷ ls) h = sym (or-false (member (label_for (keys_of es) (l ∷ ls) v) right))

      holds : (u : Name) (right : Right) (v : Name) → (graph_built (new, waits)).holds u right v ≡ with_edge (graph_built (es, waits)).holds x y s u right v
      holds u right v =
          (λ i. member (waiting_or (g i).vertices (waiting_of (g i).vertices waits u) v (label_of new u v)) right)
          ∙ by u v right (bytes_eq u x) refl (waiting_of (keys_of es) waits u) (waits-not u)

  pub adds-aside : (r : Result (Unit {0}) EdgeFault) → AddsEdge (graph_of es) x y s r (graph_of new) → AddsEdge (graph_built (es, waits)) x y s r (graph_built (new, waits))
  adds-aside (Ok _) h = (fault-aside ∙ h.0, built-aside h.1)
  adds-aside (Err Memory) h = fault-aside ∙ h
  adds-aside (Err EdgeThere) h = fault-aside ∙ h
  adds-aside (Err Empty) h = fault-aside ∙ h
  adds-aside (Err (Unknown v)) h = fault-aside ∙ h

-- what waits may wait in a graph of as many vertices
pub may_wait-same : (es new : Entries) (waits : List (List Rights)) → length new ≡ length es → MayWait (es, waits) → MayWait (new, waits)
may_wait-same es new waits same m k h = let w = m k h in (omega (arith, w.0, same), w.1 ∙ sym same)

pub as_many-aside : (es new : Entries) (x y : Name) (s : Rights) (r : Result (Unit {0}) EdgeFault) → AddsEdge (graph_of es) x y s r (graph_of new) → OnErr r (new ≡ es) → length new ≡ length es
as_many-aside es new x y s (Ok _) h k = sym (length-map new (λ (e : Name × Edges). e.0)) ∙ ap (λ g. length g.vertices) h.1 ∙ length-map es (λ (e : Name × Edges). e.0)
as_many-aside es new x y s (Err fault) h k = ap length k

-- ---- nothing waits
idle-label : (es : Entries) (waits : List (List Rights)) → ((k : ℕ) → get_or waits k [] ≡ []) → (u v : Name) → label_built es waits u v ≡ label_of es u v
idle-label es waits none u v =
    ap (λ l. waiting_or (keys_of es) l v (label_of es u v)) (item-each [] (keys_of es) waits (λ l. l ≡ []) refl none u)

pub built-idle : (es : Entries) (waits : List (List Rights)) → ((k : ℕ) → get_or waits k [] ≡ []) → graph_built (es, waits) ≡ graph_of es
built-idle es waits none = λ i. record { vertices = keys_of es; holds = λ u right v. member (idle-label es waits none u v i) right }

pub built-nothing : (es : Entries) → graph_built (es, []) ≡ graph_of es
built-nothing es = built-idle es [] (λ k. refl)

-- nothing waits where nothing does in front of the end
pub none-left : (waits : List (List Rights)) (end : ℕ) → length waits ≡ end → ((k : ℕ) → k < end → get_or waits k [] ≡ []) → (k : ℕ) → get_or waits k [] ≡ []
none-left waits end e h k = by (cases_lt k end)
  where
    by : (k < end) ⊎ (end ≤ k) → get_or waits k [] ≡ []
    by (inl l) = h k l
    by (inr l) = get_or-eq_default waits [] (omega (arith, e, l))

-- ---- lists with the same items
module _ (es : Entries) (old new : List (List Rights)) (same : (k : ℕ) → get_or new k [] ≡ get_or old k []) where
  waiting-same : (u : Name) → waiting_of (keys_of es) new u ≡ waiting_of (keys_of es) old u
  waiting-same u = by (position (bytes_eq u) (keys_of es))
    where
      by : (o : Option ℕ) → option_map_or (λ p. get_or new p []) o [] ≡ option_map_or (λ p. get_or old p []) o []
      by None = refl
      by (Some p) = same p

  pub built-same : graph_built (es, new) ≡ graph_built (es, old)
  built-same = λ i. record { vertices = keys_of es; holds = λ u right v. member (waiting_or (keys_of es) (waiting-same u i) v (label_of es u v)) right }

  pub may_wait-new : MayWait (es, old) → MayWait (es, new)
  may_wait-new m k h = let w = m k (omega (arith, h, ap length (same k))) in (w.0, ap length (same k) ∙ w.1)

-- one list of labels changes
pub may_wait-set : (es : Entries) (waits : List (List Rights)) (source : ℕ) (labels : List Rights) → source < length es → (0 < length labels → length labels ≡ length es) → MayWait (es, waits) → MayWait (es, set waits source labels)
may_wait-set es waits source labels within for_each m k h = by k (get_or_set waits source k) h
  where
    get_or_set : (waits : List (List Rights)) (source k : ℕ) → (get_or (set waits source labels) k [] ≡ get_or waits k []) ⊎ ((k ≡ source) × (get_or (set waits source labels) k [] ≡ labels))
    get_or_set [] source k = inl refl
    get_or_set (w ∷ waits) zero zero = inr (refl, refl)
    get_or_set (w ∷ waits) zero (suc k) = inl refl
    get_or_set (w ∷ waits) (suc source) zero = inl refl
    get_or_set (w ∷ waits) (suc source) (suc k) = ⊎_elim inl (λ e. inr (ap suc e.0, e.1)) (get_or_set waits source k)

    by : (k : ℕ) → (get_or (set waits source labels) k [] ≡ get_or waits k []) ⊎ ((k ≡ source) × (get_or (set waits source labels) k [] ≡ labels)) → 0 < length (get_or (set waits source labels) k []) → (k < length es) × (length (get_or (set waits source labels) k []) ≡ length es)
    by k (inl e) h = let w = m k (omega (arith, h, ap length e)) in (w.0, ap length e ∙ w.1)
    by k (inr e) h = (omega (arith, within, e.0), ap length e.1 ∙ for_each (omega (arith, h, ap length e.1)))

-- ---- labels begin to wait, as the row has them
pub built-begun : (es : Entries) (waits : List (List Rights)) (source : ℕ) (x : Name) (labels : List Rights) → IsDistinct bytes_eq (keys_of es) → slice_get (keys_of es) source ≡ Some x → source < length waits → get_or waits source [] ≡ [] → ((v : Name) → label_for (keys_of es) labels v ≡ label_of es x v) → graph_built (es, set waits source labels) ≡ graph_built (es, waits)
built-begun es waits source x labels apart here within idle same = λ i. record { vertices = keys_of es; holds = λ u right v. member (label u v (bytes_eq u x) refl i) right }
  where
    at_row : (ls : List Rights) (v : Name) (row : Rights) → label_for (keys_of es) ls v ≡ row → waiting_or (keys_of es) ls v row ≡ row
    at_row [] v row e = refl
    at_row (l ∷ ls) v row e = e

    label : (u v : Name) (b : Bool) → bytes_eq u x ≡ b → label_built es (set waits source labels) u v ≡ label_built es waits u v
    label u v true p =
        ap (λ l. waiting_or (keys_of es) l v (label_of es u v)) (set-here [] (keys_of es) waits source x labels apart here within u p)
        ∙ at_row labels v (label_of es u v) (same v ∙ ap (λ k. label_of es k v) (sym (same_bytes u x p)))
        ∙ sym (label-aside es es waits source x x nothing apart here idle u v (label_of es u v) p)
    label u v false p = ap (λ l. waiting_or (keys_of es) l v (label_of es u v)) (set-away [] (keys_of es) waits source x labels apart here within u p)

-- ---- a row is put in
keys-set : (es : Entries) (place : ℕ) (row : Edges) → keys_of (set_value_at es place row) ≡ keys_of es
keys-set [] place row = refl
keys-set (e ∷ es) zero row = refl
keys-set (e ∷ es) (suc place) row = ap (λ l. e.0 ∷ l) (keys-set es place row)

module _ (es : Entries) (place : ℕ) (x : Name) (row : Edges) (apart : IsDistinct bytes_eq (keys_of es)) (at : slice_get (keys_of es) place ≡ Some x) where
  abbrev settled : Entries
  settled = set_value_at es place row

  keys-settled : keys_of settled ≡ keys_of es
  keys-settled = keys-set es place row

  looked : (u : Name) → lookup (bytes_eq u) settled ≡ cond (bytes_eq u x) (Some row) (lookup (bytes_eq u) es)
  looked u = ap (lookup (bytes_eq u)) (set-at es place x row apart at) ∙ lookup-put es x row u ∙ ap (λ b. cond b (Some row) (lookup (bytes_eq u) es)) (symm x u)

  pub is_graph-settled : IsGraph es → IsRow row → ((v : Name) → is_target row v ≡ true → is_known es v ≡ true) → IsGraph settled
  is_graph-settled g r targets = record {
    apart = subst (IsDistinct bytes_eq) (sym keys-settled) g.apart;
    known = λ u v h. ap (list_any (bytes_eq v)) keys-settled ∙ known u v (bytes_eq u x) (sym (ap (λ o. option_map_or (λ r. is_target r v) o false) (looked u)) ∙ h);
    rows = λ u. subst (λ o. IfSome o IsRow) (sym (looked u)) (rows u (bytes_eq u x));
    names = λ v k. g.names v (sym (ap (list_any (bytes_eq v)) keys-settled) ∙ k);
  }
    where
      known : (u v : Name) (b : Bool) → option_map_or (λ r. is_target r v) (cond b (Some row) (lookup (bytes_eq u) es)) false ≡ true → is_known es v ≡ true
      known u v true h = targets v h
      known u v false h = g.known u v h

      rows : (u : Name) (b : Bool) → IfSome (cond b (Some row) (lookup (bytes_eq u) es)) IsRow
      rows u true = r
      rows u false = g.rows u

  -- in place of the labels that waited
  pub built-settled : (waits : List (List Rights)) → 0 < length (get_or waits place []) → HasMoved (keys_of es) (get_or waits place []) row → graph_built (settled, set waits place []) ≡ graph_built (es, waits)
  built-settled waits some moved = λ i. record { vertices = keys-settled i; holds = λ u right v. holds u right v i }
    where
      by : (u v : Name) (right : Right) (b : Bool) → bytes_eq u x ≡ b
          → member (waiting_or (keys_of es) (waiting_of (keys_of es) (set waits place []) u) v (option_map_or (λ r. label_in r v) (cond b (Some row) (lookup (bytes_eq u) es)) nothing)) right ≡ member (label_built es waits u v) right
      by u v right true p =
          ap (λ l. member (waiting_or (keys_of es) l v (label_in row v)) right) (set-here [] (keys_of es) waits place x [] apart at (inside waits place some) u p)
          ∙ moved.members v right
          ∙ sym (ap (λ k. member (label_built es waits k v) right) (same_bytes u x p) ∙ ap (λ l. member l right) (label-waits es waits place x apart at some v))
      by u v right false p =
          ap (λ l. member (waiting_or (keys_of es) l v (label_of es u v)) right) (set-away [] (keys_of es) waits place x [] apart at (inside waits place some) u p)

      holds : (u : Name) (right : Right) (v : Name) → (graph_built (settled, set waits place [])).holds u right v ≡ (graph_built (es, waits)).holds u right v
      holds u right v =
          (λ i. member (waiting_or (keys-settled i) (waiting_of (keys-settled i) (set waits place []) u) v (option_map_or (λ r. label_in r v) (looked u i) nothing)) right)
          ∙ by u v right (bytes_eq u x) refl

  pub length-settled : length settled ≡ length es
  length-settled = length-set_value_at es place row
