-- The lines of a row, and of the edges to all vertices.
use Rattle.std.proofs.Common.{◌≡◌, ℕ, suc, ◌+◌, ◌-◌, ◌≤◌, ◌<◌, take, length, Bool, true, false, cond, ◌||◌, List, [], ◌∷◌, ◌++◌, Ordering, Option, Some, None, unwrap_or, MatchOption, refl, sym, ap, subst, ◌∙◌, true≢false, arith, append_assoc, bytes_eq, codes, eqb, nat_cmp}
use Rattle.std.specs.declared.cmp.Ordering.TheVariants.{Less, Equal, Greater}
use Rattle.std.specs.Cmp.Lexicographic.{slice_cmp, nat_list_cmp_total, texts_ties}
use Rattle.std.specs.Ordering.{is_eq, ordering_reverse}
use Rattle.std.proofs.lemmas.List.{take_more}
use Rattle.std.proofs.lemmas.Bool.{or_right, ne_eqb}
use Rattle.std.proofs.lemmas.Option.{slice_get_within, get_or_from_slice_get, slice_get-get_or, none-some}
use Rattle.std.specs.List.{slice_get, flat_map, position, position_from}
use Rattle.std.specs.List.Sorted.{IsStrictlySortedBy}
use Rattle.std.specs.Map.{keys_of, lookup}
use Rattle.std.proofs.lemmas.Iterator.Adapters.{position_from-zero}
use Rattle.std.proofs.lemmas.Map.Lookups.{exact_bytes}
use Rattle.tg_names.specs.declared.right_sets.Rights.{Rights}
use Rattle.tg_names.specs.Names.{Name}
use Rattle.tg_rows.proofs.Rows.{same_bytes}
use Rattle.tg_names.specs.Sets.{nothing}
use Rattle.tg_rows.specs.Rows.{Edges, Entries, IsLabel, label_in, row_number}
use Rattle.tg_text.specs.Canonical.{edge_end, edge_front, edge_line}
use Rattle.tg_words.specs.Spelling.{rights_text, spaced, line_of}
use Rattle.tg_text.proofs.NameOrder.{Strict, Above, among, absent, first, reversed, above_above, same_name-refl}

-- ---- a row among all vertices
-- a name below each key has no label
none_below : (v : Name) (row : Edges) → Above v (keys_of row) → label_in row v ≡ nothing
none_below v [] a = refl
none_below v (e ∷ row) a =
    ap (λ b. unwrap_or (cond b (Some e.1) (lookup (bytes_eq v) row)) nothing) (texts_ties v e.0 ∙ ap is_eq a.0) ∙ none_below v row a.1

label_past : (e : Name × Rights) (row : Edges) (v : Name) → slice_cmp nat_cmp e.0 v ≡ Less → label_in (e ∷ row) v ≡ label_in row v
label_past e row v l =
    ap (λ b. unwrap_or (cond b (Some e.1) (lookup (bytes_eq v) row)) nothing) (texts_ties v e.0 ∙ ap is_eq (nat_list_cmp_total.antisymm v e.0 ∙ ap ordering_reverse l))

label_here : (e : Name × Rights) (row : Edges) (v : Name) → bytes_eq v e.0 ≡ true → label_in (e ∷ row) v ≡ e.1
label_here e row v h = ap (λ b. unwrap_or (cond b (Some e.1) (lookup (bytes_eq v) row)) nothing) h

module _ (f : Name → Rights → List ℕ) (empty : (v : Name) → f v nothing ≡ []) where
  abbrev of_all : Edges → List Name → List ℕ
  of_all row vs = flat_map (λ v. f v (label_in row v)) vs

  of_all-past : (e : Name × Rights) (row : Edges) (vs : List Name) → Above e.0 vs → of_all (e ∷ row) vs ≡ of_all row vs
  of_all-past e row [] a = refl
  of_all-past e row (v ∷ vs) a = λ i. f v (label_past e row v a.0 i) ++ of_all-past e row vs a.1 i

  of_all-none : (vs : List Name) → of_all [] vs ≡ []
  of_all-none [] = refl
  of_all-none (v ∷ vs) = ap (λ bs. bs ++ of_all [] vs) (empty v) ∙ of_all-none vs

  -- those of the names that are not v
  others : (v : Name) (ks vs : List Name) → Above v ks → ((u : Name) → among u ks ≡ true → among u (v ∷ vs) ≡ true) → (u : Name) → among u ks ≡ true → among u vs ≡ true
  others v ks vs a h u m = by (bytes_eq u v) refl (h u m)
    where
      by : (b : Bool) → bytes_eq u v ≡ b → (b || among u vs) ≡ true → among u vs ≡ true
      by true e k = absurd (true≢false (sym m ∙ ap (λ n. among n ks) (same_bytes u v e) ∙ absent v ks a))
      by false e k = k

  pub row-lines : (vs : List Name) (row : Edges) → Strict vs → Strict (keys_of row) → ((v : Name) → among v (keys_of row) ≡ true → among v vs ≡ true) → of_all row vs ≡ flat_map (λ (e : Name × Rights). f e.0 e.1) row
  unfolding IsStrictlySortedBy
  row-lines vs [] s t h = of_all-none vs
  row-lines [] (e ∷ row) s t h = absurd (true≢false (sym (h e.0 (first e.0 (keys_of row)))))
  row-lines (v ∷ vs) (e ∷ row) s t h = by (slice_cmp nat_cmp v e.0) refl (row-lines vs row s.1 t.1) (row-lines vs (e ∷ row) s.1 t)
    where
      by : (r : Ordering) → slice_cmp nat_cmp v e.0 ≡ r
          → (((u : Name) → among u (keys_of row) ≡ true → among u vs ≡ true) → of_all row vs ≡ flat_map (λ (e : Name × Rights). f e.0 e.1) row)
          → (((u : Name) → among u (keys_of (e ∷ row)) ≡ true → among u vs ≡ true) → of_all (e ∷ row) vs ≡ flat_map (λ (e : Name × Rights). f e.0 e.1) (e ∷ row))
          → of_all (e ∷ row) (v ∷ vs) ≡ flat_map (λ (e : Name × Rights). f e.0 e.1) (e ∷ row)
      by Less l both later =
          let above = above_above v e.0 (keys_of row) l t.0 in
          ap (λ bs. bs ++ of_all (e ∷ row) vs) (ap (f v) (none_below v (e ∷ row) (l, above)) ∙ empty v)
          ∙ later (others v (keys_of (e ∷ row)) vs (l, above) h)
      by Greater l both later =
          let below = reversed v e.0 l in
          absurd (true≢false (sym (h e.0 (first e.0 (keys_of row))) ∙ absent e.0 (v ∷ vs) (below, above_above e.0 v vs below s.0)))
      by Equal l both later =
          let same = exact_bytes v e.0 l in
          let above = subst (λ n. Above n vs) same s.0 in
          let above_v = subst (λ n. Above n (keys_of row)) (sym same) t.0 in
          (λ i. f (same i) (label_here e row v (ap (bytes_eq v) (sym same) ∙ same_name-refl v) i) ++ of_all-past e row vs above i)
          ∙ ap (λ bs. f e.0 e.1 ++ bs) (both (others v (keys_of row) vs above_v (λ u m. h u (or_right (bytes_eq u e.0) (among u (keys_of row)) m))))

-- ---- the row at a position
abbrev pub FoundAt : Name → ℕ → Entries → Option ℕ → Type 0
FoundAt u k es o = MatchOption o (lookup (bytes_eq u) es ≡ None) (λ i. (k ≤ i) × (lookup (bytes_eq u) es ≡ Some (row_number es (i - k))))

row-found_from : (u : Name) (k : ℕ) (es : Entries) → FoundAt u k es (position_from (bytes_eq u) k (keys_of es))
row-found_from u k [] = refl
row-found_from u k (e ∷ es) = by (bytes_eq u e.0) (position_from (bytes_eq u) (k + 1) (keys_of es)) (row-found_from u (k + 1) es)
  where
    by : (b : Bool) (o : Option ℕ) → FoundAt u (k + 1) es o → MatchOption (cond b (Some k) o) (cond b (Some e.1) (lookup (bytes_eq u) es) ≡ None) (λ i. (k ≤ i) × (cond b (Some e.1) (lookup (bytes_eq u) es) ≡ Some (row_number (e ∷ es) (i - k))))
    by true o f = (omega arith, let none : 0 ≡ k - k = omega arith in ap (λ n. Some (row_number (e ∷ es) n)) none)
    by false None f = f
    by false (Some i) f = (omega (arith, f.0), let more : suc (i - (k + 1)) ≡ i - k = omega (arith, f.0) in f.1 ∙ ap (λ n. Some (row_number (e ∷ es) n)) more)

pub row-found : (u : Name) (es : Entries) → FoundAt u 0 es (position (bytes_eq u) (keys_of es))
row-found u es = subst (FoundAt u 0 es) (sym (position_from-zero (bytes_eq u) (keys_of es))) (row-found_from u 0 es)

-- ---- the lines of one row
abbrev pub edge_of : Name → Name × Rights → List ℕ
edge_of u e = edge_line u e.0 e.1

-- a line begins with what is the same for each edge from u
pub edge-parts : (u : Name) (e : Name × Rights) → IsLabel e.1 → edge_front u ++ edge_end e.0 e.1 ≡ edge_of u e
edge-parts u e label =
    let some : eqb e.1.0 0 ≡ false = ne_eqb e.1.0 0 (let more = label.some in λ none. omega arith) in
    let whole : edge_of u e ≡ line_of (codes "edge" ∷ u ∷ e.0 ∷ rights_text e.1 ∷ []) = rw some refl in
    sym (whole ∙ ap (λ bs. codes "edge" ++ 32 ∷ bs) (append_assoc u (32 ∷ spaced (e.0 ∷ rights_text e.1 ∷ [])) (10 ∷ [])))

-- ---- elements by their places
pub take_one : {X : Type 0} (xs : List X) (i : ℕ) (x : X) → slice_get xs i ≡ Some x → take (i + 1) xs ≡ take i xs ++ x ∷ []
take_one xs i x e = take_more xs i x (slice_get_within xs i x e) ∙ ap (λ y. take i xs ++ y ∷ []) (get_or_from_slice_get xs i x x e)

pub past_end : {X : Type 0} (xs : List X) (i : ℕ) → i < length xs → slice_get xs i ≡ None → ⊥
past_end [] i h e = omega arith
past_end (x ∷ xs) i h e = none-some _ (sym e ∙ slice_get-get_or (x ∷ xs) i x h)
