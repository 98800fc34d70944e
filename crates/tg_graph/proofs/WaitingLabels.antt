-- Labels that move to a row.
use Rattle.std.proofs.Common.{◌≡◌, ℕ, zero, suc, ◌+◌, ◌<◌, ◌≤◌, Bool, true, false, cond, List, [], ◌∷◌, length, get_or, set, replicate, Option, None, Some, IfSome, refl, sym, ap, subst, ◌∙◌, bytes_eq, true≢false, arith, ◌&&◌, ◌||◌, unwrap_or, ◌⊎◌, inl, inr}
use Rattle.std.specs.Prelude.{slice_get, position}
use Rattle.std.specs.Option.{option_map, option_map_or}
use Rattle.std.specs.List.{list_any, IsDistinct}
use Rattle.std.proofs.Math.Bool.{or-false}
use Rattle.std.specs.Map.{keys_of, lookup}
use Rattle.std.specs.Cmp.Lexicographic.{nat_list_eq_equiv}
use Rattle.std.proofs.lemmas.Bool.{cases_lt}
use Rattle.std.proofs.lemmas.List.Quantifiers.{position-Some}
use Rattle.std.proofs.lemmas.Map.Entries.{lookup_from_place}
use Rattle.std.proofs.lemmas.Option.{none-some, same_Some, slice_get-map, slice_get_within, get_or_from_slice_get}
use Rattle.tg_names.specs.declared.right_sets.Right.{Right}
use Rattle.tg_names.specs.declared.right_sets.Rights.{Rights}
use Rattle.tg_names.specs.Sets.{member, nothing, IsNamed}
use Rattle.tg_names.specs.Names.{Name}
use Rattle.tg_rows.specs.Rows.{Edges, Entries, Adds, IsGraph, IsLabel, IsRow, label_in, label_of, is_target, row_number}
use Rattle.tg_graph.specs.Waiting.{label_for, IsMoving, HasMoved}
use Rattle.tg_rows.proofs.Rows.{symm, same_bytes, row_none}
use Rattle.tg_names.proofs.Sets.{member-nothing}
use Rattle.tg_rows.proofs.Places.{distinct_from_up}
use Rattle.tg_graph.proofs.Positions.{among-at}
use Rattle.tg_graph.proofs.TakenOver.{differs}
use Rattle.tg_graph.proofs.BuiltGraphs.{item-at, item-each, set-here, set-away}

-- ---- a label that is gone
pub past_end : (left : List Rights) (place : ℕ) → length left ≤ place → get_or left place nothing ≡ nothing
past_end [] place h = refl
past_end (l ∷ left) zero h = absurd (omega arith)
past_end (l ∷ left) (suc place) h = past_end left place (omega arith)

pub gone-here : (left : List Rights) (place : ℕ) → get_or (set left place nothing) place nothing ≡ nothing
gone-here [] place = refl
gone-here (l ∷ left) zero = refl
gone-here (l ∷ left) (suc place) = gone-here left place

pub gone-still : (left : List Rights) (place k : ℕ) → get_or left k nothing ≡ nothing → get_or (set left place nothing) k nothing ≡ nothing
gone-still [] place k h = h
gone-still (l ∷ left) zero zero h = refl
gone-still (l ∷ left) zero (suc k) h = h
gone-still (l ∷ left) (suc place) zero h = h
gone-still (l ∷ left) (suc place) (suc k) h = gone-still left place k h

pub no_rights : (label : Rights) → label.0 ≡ 0 → label ≡ nothing
no_rights label e = λ i. record { 0 = e i }

-- ---- labels that move
module _ (names : List Name) (labels : List Rights) where
  pub moving-start : IsMoving names labels [] labels
  moving-start = record {
    members = λ v right. ap (λ b. b || member (label_for names labels v) right) (member-nothing right);
    targets = λ v h. absurd (true≢false (sym h));
  }

  module _ (row : Edges) (left : List Rights) (m : IsMoving names labels row left) where
    pub moving-one : (new : Edges) (place : ℕ) (y : Name) → IsDistinct bytes_eq names → slice_get names place ≡ Some y → place < length left → Adds row new y (get_or left place nothing) → IsMoving names labels new (set left place nothing)
    moving-one new place y apart at within a = record {
      members = λ v right.
          ap (λ b. b || member (label_for names (set left place nothing) v) right) (a.members v right)
          ∙ members v right (bytes_eq v y) refl
          ∙ m.members v right;
      targets = λ v h. targets v (is_target row v) (bytes_eq v y) refl refl (a.targets v h);
    }
      where
        members : (v : Name) (right : Right) (b : Bool) → bytes_eq v y ≡ b
            → ((member (label_in row v) right || (b && member (get_or left place nothing) right)) || member (label_for names (set left place nothing) v) right) ≡ (member (label_in row v) right || member (label_for names left v) right)
        members v right true e =
            ap (λ l. (member (label_in row v) right || member (get_or left place nothing) right) || member l right) (set-here nothing names left place y nothing apart at within v e)
            ∙ ap (λ b. (member (label_in row v) right || member (get_or left place nothing) right) || b) (member-nothing right)
            ∙ or-false (member (label_in row v) right || member (get_or left place nothing) right)
            ∙ ap (λ l. member (label_in row v) right || member l right) (sym (ap (label_for names left) (same_bytes v y e) ∙ item-at nothing names left place y apart at))
        members v right false e =
            ap (λ b. b || member (label_for names (set left place nothing) v) right) (or-false (member (label_in row v) right))
            ∙ ap (λ l. member (label_in row v) right || member l right) (set-away nothing names left place y nothing apart at within v e)

        targets : (v : Name) (b c : Bool) → is_target row v ≡ b → bytes_eq v y ≡ c → (b || c) ≡ true → list_any (bytes_eq v) names ≡ true
        targets v true c p q h = m.targets v p
        targets v false true p q h = ap (λ k. list_any (bytes_eq k) names) (same_bytes v y q) ∙ among-at names y place at
        targets v false false p q h = absurd (true≢false (sym h))

    pub moved-all : ((k : ℕ) → k < length names → get_or left k nothing ≡ nothing) → HasMoved names labels row
    moved-all gone = record {
      members = λ v right.
          sym (ap (λ l. member (label_in row v) right || member l right) (none v (position (bytes_eq v) names) refl) ∙ ap (λ b. member (label_in row v) right || b) (member-nothing right) ∙ or-false (member (label_in row v) right))
          ∙ m.members v right;
      targets = m.targets;
    }
      where
        none : (v : Name) (o : Option ℕ) → position (bytes_eq v) names ≡ o → option_map_or (λ p. get_or left p nothing) o nothing ≡ nothing
        none v None e = refl
        none v (Some p) e = gone p (position-Some (bytes_eq v) names p v e).0

-- ---- the labels of a row
pub row-number : (es : Entries) (place : ℕ) → IsGraph es → IsRow (row_number es place)
row-number es place g = by (slice_get es place) refl
  where
    by : (o : Option (Name × Edges)) → slice_get es place ≡ o → IsRow (option_map_or (λ (e : Name × Edges). e.1) o [])
    by None e = row_none [] refl
    by (Some (u, row)) e = subst (λ o. IfSome o IsRow) (lookup_from_place nat_list_eq_equiv es place u row g.apart e) (g.rows u)

place-found : (v : Name) (es : Edges) (s : Rights) → lookup (bytes_eq v) es ≡ Some s → (k : ℕ) × (slice_get es k ≡ Some (v, s))
place-found v [] s e = absurd (none-some s e)
place-found v (x ∷ es) s e = by (bytes_eq v x.0) refl (place-found v es s)
  where
    by : (b : Bool) → bytes_eq v x.0 ≡ b → (lookup (bytes_eq v) es ≡ Some s → (k : ℕ) × (slice_get es k ≡ Some (v, s))) → (k : ℕ) × (slice_get (x ∷ es) k ≡ Some (v, s))
    by true t later = (0, (λ i. Some (sym (same_bytes v x.0 t) i, same_Some x.1 s (sym (ap (λ b. cond b (Some x.1) (lookup (bytes_eq v) es)) t) ∙ e) i)))
    by false t later = let found = later (sym (ap (λ b. cond b (Some x.1) (lookup (bytes_eq v) es)) t) ∙ e) in (suc found.0, found.1)

-- the labels of the edges in front of the place are copied
pub record IsCopied (row : Edges) (names : List Name) (labels : List Rights) (place : ℕ) : Type 0 where
  pub copied : (k : ℕ) (v : Name) (s : Rights) → k < place → slice_get row k ≡ Some (v, s) → label_for names labels v ≡ s
  pub others : (v : Name) → lookup (bytes_eq v) row ≡ None → label_for names labels v ≡ nothing

module _ (row : Edges) (r : IsRow row) where
  edge-found : (place : ℕ) (y : Name) (s : Rights) → slice_get row place ≡ Some (y, s) → lookup (bytes_eq y) row ≡ Some s
  edge-found place y s at = lookup_from_place nat_list_eq_equiv row place y s (distinct_from_up row r.sorted) at

  pub edge-named : (place : ℕ) (y : Name) (s : Rights) → slice_get row place ≡ Some (y, s) → IsNamed s
  edge-named place y s at = (subst (λ o. IfSome o IsLabel) (edge-found place y s at) (r.labelled y)).named

  edge-key : (place : ℕ) (y : Name) (s : Rights) → slice_get row place ≡ Some (y, s) → slice_get (keys_of row) place ≡ Some y
  edge-key place y s at = slice_get-map (λ (e : Name × Rights). e.0) row place ∙ ap (option_map (λ (e : Name × Rights). e.0)) at

  edges-apart : (k place : ℕ) (v y : Name) (s t : Rights) → k < place → slice_get row k ≡ Some (v, s) → slice_get row place ≡ Some (y, t) → bytes_eq v y ≡ false
  edges-apart k place v y s t l at here =
      symm v y
      ∙ ap (bytes_eq y) (sym (get_or_from_slice_get (keys_of row) k v [] (edge-key k v s at)))
      ∙ differs y (keys_of row) k place [] (distinct_from_up row r.sorted) l (edge-key place y t here)

  module _ (names : List Name) where
    pub copied-none : (n : ℕ) → IsCopied row names (replicate n nothing) 0
    copied-none n = record {
      copied = λ k v s l at. absurd (omega arith);
      others = λ v h. item-each nothing names (replicate n nothing) (λ l. l ≡ nothing) refl (no_label n) v;
    }
      where
        no_label : (n k : ℕ) → get_or (replicate n nothing) k nothing ≡ nothing
        no_label zero k = refl
        no_label (suc n) zero = refl
        no_label (suc n) (suc k) = no_label n k

    pub copied-one : (labels : List Rights) (place target : ℕ) (y : Name) (s : Rights) → IsDistinct bytes_eq names → slice_get names target ≡ Some y → target < length labels → slice_get row place ≡ Some (y, s) → IsCopied row names labels place → IsCopied row names (set labels target s) (place + 1)
    copied-one labels place target y s apart at within here c = record {
      copied = λ k v t l e. by k v t e (cases_lt k place) l;
      others = λ v h. set-away nothing names labels target y s apart at within v (other v h (bytes_eq v y) refl) ∙ c.others v h;
    }
      where
        other : (v : Name) → lookup (bytes_eq v) row ≡ None → (b : Bool) → bytes_eq v y ≡ b → b ≡ false
        other v h false e = refl
        other v h true e = absurd (none-some s (sym h ∙ ap (λ k. lookup (bytes_eq k) row) (same_bytes v y e) ∙ edge-found place y s here))

        by : (k : ℕ) (v : Name) (t : Rights) → slice_get row k ≡ Some (v, t) → (k < place) ⊎ (place ≤ k) → k < place + 1 → label_for names (set labels target s) v ≡ t
        by k v t e (inl l) h = set-away nothing names labels target y s apart at within v (edges-apart k place v y t s l e here) ∙ c.copied k v t l e
        by k v t e (inr l) h =
            let same : k ≡ place = omega (arith, l, h) in
            let edge : (v, t) ≡ (y, s) = same_Some (v, t) (y, s) (sym e ∙ ap (slice_get row) same ∙ here) in
            set-here nothing names labels target y s apart at within v (ap (bytes_eq v) (sym (ap (λ (p : Name × Rights). p.0) edge)) ∙ nat_list_eq_equiv.refl v) ∙ sym (ap (λ (p : Name × Rights). p.1) edge)

    pub copied-all : (labels : List Rights) (place : ℕ) → length row ≤ place → IsCopied row names labels place → (v : Name) → label_for names labels v ≡ label_in row v
    copied-all labels place l c v = by (lookup (bytes_eq v) row) refl
      where
        by : (o : Option Rights) → lookup (bytes_eq v) row ≡ o → label_for names labels v ≡ label_in row v
        by None e = c.others v e ∙ sym (ap (λ o. unwrap_or o nothing) e)
        by (Some s) e =
            let found = place-found v row s e in
            c.copied found.0 v s (omega (arith, slice_get_within row found.0 (v, s) found.1, l)) found.1 ∙ sym (ap (λ o. unwrap_or o nothing) e)

-- the row of a vertex has the labels of its edges
pub label-row : (es : Entries) (place : ℕ) (x v : Name) → IsDistinct bytes_eq (keys_of es) → slice_get (keys_of es) place ≡ Some x → label_of es x v ≡ label_in (row_number es place) v
label-row es place x v apart at = by (slice_get es place) refl
  where
    by : (o : Option (Name × Edges)) → slice_get es place ≡ o → label_of es x v ≡ label_in (option_map_or (λ (e : Name × Edges). e.1) o []) v
    by None e = absurd (none-some x (sym (slice_get-map (λ (e : Name × Edges). e.0) es place ∙ ap (option_map (λ (e : Name × Edges). e.0)) e) ∙ at))
    by (Some (u, row)) e =
        let same : u ≡ x = same_Some u x (sym (slice_get-map (λ (e : Name × Edges). e.0) es place ∙ ap (option_map (λ (e : Name × Edges). e.0)) e) ∙ at) in
        ap (λ k. label_of es k v) (sym same) ∙ ap (λ o. option_map_or (λ row. label_in row v) o nothing) (lookup_from_place nat_list_eq_equiv es place u row apart e)
