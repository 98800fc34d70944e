-- The rules for what edges lose: one edge more, one row more, and all of them.
use Rattle.std.proofs.Common.{◌≡◌, ℕ, zero, suc, ◌+◌, ◌<◌, ◌≤◌, ◌⊎◌, inl, inr, Bool, true, false, not, ◌&&◌, ◌||◌, List, [], ◌∷◌, ◌++◌, take, length, slice_get, Option, Some, None, refl, sym, ap, subst, ◌∙◌, bytes_eq, nat_lt, eqb, if◌then◌else◌, is_some, arith, append_assoc}
use Rattle.std.specs.List.{AllByRecursion, list_any, IsDistinct}
use Rattle.std.specs.List.Sorted.{IsStrictlySortedBy, IsSorted, IsPermutation}
use Rattle.std.specs.Map.{keys_of, lookup}
use Rattle.std.specs.Option.{option_map, option_map_or}
use Rattle.std.specs.Ordering.{nat_cmp}
use Rattle.std.specs.Cmp.Lexicographic.{slice_cmp, nat_list_eq_equiv}
use Rattle.std.specs.declared.cmp.Ordering.TheVariants.{Less}
use Rattle.std.proofs.lemmas.Bool.{false≢true, both_ways, or_cases, or_left, or_right, and_parts, and_from, and_left, cases_lt, cases_Bool, eqb-true, eqb-false, lt-ltb, le-ltb}
use Rattle.std.proofs.lemmas.List.{append-nil, take_more, take_all}
use Rattle.std.proofs.lemmas.List.Folds.{list_any-append}
use Rattle.std.proofs.lemmas.List.Sorted.{list_any-IsPermutation}
use Rattle.std.proofs.lemmas.Map.Keys.{IsDistinct-push, IsDistinct-IsPermutation}
use Rattle.std.proofs.lemmas.Map.Entries.{lookup_from_place}
use Rattle.std.proofs.lemmas.Option.{none-some, same_Some, some_pair_parts, slice_get_within, get_or_from_slice_get, slice_get-map}
use Rattle.tg_names.specs.declared.right_sets.Right.{Right}
use Rattle.tg_names.specs.declared.right_sets.Right.TheVariants.{T, G, R, W, E, A, D}
use Rattle.tg_names.specs.declared.right_sets.Rights.{Rights}
use Rattle.tg_graph.specs.declared.rules.Rule.{Rule}
use Rattle.tg_graph.specs.declared.rules.Rule.TheVariants.{Remove}
use Rattle.tg_graph.specs.declared.ends.Wanted.TheVariants.{All}
use Rattle.tg_names.specs.Sets.{member, is_empty_set, IsNamed, rights_where}
use Rattle.tg_graph.specs.Ends.{end_of}
use Rattle.tg_names.specs.Names.{Name, same_name}
use Rattle.tg_graph.specs.Graphs.{WellFormed, has_vertex}
use Rattle.tg_graph.specs.GraphOf.{graph_of}
use Rattle.tg_rows.specs.Rows.{Edges, Entries, IsGraph, IsRow, is_target, row_number}
use Rattle.tg_flow.specs.Courses.{is_in}
use Rattle.tg_rows.proofs.Order.{strict_from_sorted}
use Rattle.tg_rows.proofs.Places.{distinct_from_up}
use Rattle.tg_graph.proofs.Positions.{at-position}
use Rattle.tg_rows.proofs.Rows.{same_bytes}
use Rattle.tg_names.proofs.Sets.{member-where}
use Rattle.tg_cuts.specs.declared.kept.Ends.{Ends}
use Rattle.tg_islands.specs.Moves.{only, take_and_grant}
use Rattle.tg_cuts.specs.Cuts.{IsBelow, ComesFirst, AreInOrder, edges_of}
use Rattle.tg_cuts.specs.CutParts.{differ, is_lost_by, is_lost, IsLoss, free_of, TakesAt, TakesNone, AddsLoss, takes, are_taken, RowRules, AddsRules, has_edges, IsSourceAt, AreSources, IsLossRule, AreLosses}
use Rattle.tg_islands.proofs.NameTests.{same_refl, any_push, none_member}
use Rattle.tg_islands.proofs.Places.{position-at, RowOf, row_of, place_of, place-known, holds-place, place-holds}
use Rattle.tg_islands.proofs.RowEnds.{is_read, end-there, found}
use Rattle.tg_cuts.proofs.EdgeOrder.{all-map, all-append, all-at, order-append, edges-append, edges-each}
use Rattle.tg_cuts.proofs.Removed.{same_remove}
use Rattle.tg_cuts.proofs.FlowEdges.{free-at, names-past, one-position}

-- ---- what one edge loses
-- all of it that is not left when what goes is left out
kept_twice : (a b : Bool) → (a && not (a && not b)) ≡ (a && b)
kept_twice true true = refl
kept_twice true false = refl
kept_twice false b = refl

pub loss-is : (right : Right) (from_free to_free to_y : Bool) (label first second lost left loss : Rights) → ((r : Right) → member first r ≡ (from_free && to_y && member (only right) r)) → ((r : Right) → member second r ≡ (differ from_free to_free && member take_and_grant r)) → ((r : Right) → member lost r ≡ (member first r || member second r)) → left ≡ rights_where (λ r. member label r && not (member lost r)) → loss ≡ rights_where (λ r. member label r && not (member left r)) → IsNamed loss → IsLoss right from_free to_free to_y label loss
loss-is right from_free to_free to_y label first second lost left loss are_first are_second are_lost is_left is_loss named = record { named = named; members = members }
  where
    members : (r : Right) → member loss r ≡ (member label r && is_lost_by right from_free to_free to_y r)
    members r =
        let in_left : member left r ≡ (member label r && not (member lost r)) = ap (λ (s : Rights). member s r) is_left ∙ member-where (λ q. member label q && not (member lost q)) r in
        let in_loss : member loss r ≡ (member label r && not (member left r)) = ap (λ (s : Rights). member s r) is_loss ∙ member-where (λ q. member label q && not (member left q)) r in
        in_loss ∙ ap (λ b. member label r && not b) in_left ∙ kept_twice (member label r) (member lost r) ∙ ap (λ b. member label r && b) (are_lost r ∙ (λ i. are_first r i || are_second r i))

-- take and grant, joined
pub links-are : (a b s : Rights) → a ≡ only T → b ≡ only G → ((r : Right) → member s r ≡ (member a r || member b r)) → (r : Right) → member s r ≡ member take_and_grant r
links-are a b s is_a is_b joined r = joined r ∙ (λ i. member (is_a i) r || member (is_b i) r) ∙ each r
  where
    each : (r : Right) → (member (only T) r || member (only G) r) ≡ member take_and_grant r
    each T = refl
    each G = refl
    each R = refl
    each W = refl
    each E = refl
    each A = refl
    each D = refl

-- ---- the rule at a place
module _ (es : Entries) (ok : IsGraph es) (right : Right) (y : Name) (marks : List Bool) (u : Name) (a : ℕ) (at_u : slice_get (keys_of es) a ≡ Some u) (place : ℕ) where
  -- the edge that stands there leads to v
  read-at : (b : ℕ) (v : Name) (label : Rights) → end_of es a place All ≡ Some (b, label) → slice_get (keys_of es) b ≡ Some v → slice_get (row_number es a) place ≡ Some (v, label)
  read-at b v label is at_v =
      let r = is_read es a place b label is in
      r.read ∙ ap (λ (n : Name). Some (n, label)) (same_Some r.name v (sym (at-position (keys_of es) r.name b r.known) ∙ at_v))

  -- its ends are free by name as they are by position
  pub loss-by-name : (b : ℕ) (v : Name) (label loss : Rights) → slice_get (keys_of es) b ≡ Some v → (from_free to_free to_y : Bool) → from_free ≡ not (is_in marks a) → to_free ≡ not (is_in marks b) → to_y ≡ same_name v y → IsLoss right from_free to_free to_y label loss → IsLoss right (free_of es marks u) (free_of es marks v) (same_name v y) label loss
  loss-by-name b v label loss at_v from_free to_free to_y is_from is_to is_y l =
      let from : from_free ≡ free_of es marks u = is_from ∙ sym (free-at es marks u a (position-at (keys_of es) ok.apart a u at_u)) in
      let to : to_free ≡ free_of es marks v = is_to ∙ sym (free-at es marks v b (position-at (keys_of es) ok.apart b v at_v)) in
      record { named = l.named; members = λ lost. l.members lost ∙ (λ i. member label lost && is_lost_by right (from i) (to i) (is_y i) lost) }

  -- nothing stands there
  pub takes-past : end_of es a place All ≡ None → TakesNone es right y (free_of es marks) u a place
  takes-past none v label lost read = by (cases_Bool (member label lost))
    where
      r : RowOf es a u
      r = row_of es ok a u at_u

      -- a target is a vertex
      known : list_any (bytes_eq v) (keys_of es) ≡ true
      known =
          let is_row : IsRow (row_number es a) = subst IsRow (sym r.number) r.sorted in
          let there : lookup (bytes_eq v) r.row ≡ Some label = ap (λ (row : Edges). lookup (bytes_eq v) row) (sym r.number) ∙ lookup_from_place nat_list_eq_equiv (row_number es a) place v label (distinct_from_up (row_number es a) is_row.sorted) read in
          ok.known u v (ap (λ (o : Option Edges). option_map_or (λ (row : Edges). is_target row v) o false) r.found ∙ ap is_some there)

      by : (member label lost ≡ true) ⊎ (member label lost ≡ false) → (member label lost && is_lost right y (free_of es marks) u v lost) ≡ false
      by (inr not_member) = and_left (member label lost) (is_lost right y (free_of es marks) u v lost) not_member
      by (inl m) =
          let b = found (keys_of es) v known in
          absurd (none-some (b.0, label) (sym none ∙ end-there es lost a place b.0 (record { name = v; label = label; read = read; held = m; known = b.1 })))

  module _ (b : ℕ) (v : Name) (label loss : Rights) (is : end_of es a place All ≡ Some (b, label)) (at_v : slice_get (keys_of es) b ≡ Some v) (l : IsLoss right (free_of es marks u) (free_of es marks v) (same_name v y) label loss) where
    -- it has nothing to lose
    pub takes-nothing : is_empty_set loss ≡ true → TakesNone es right y (free_of es marks) u a place
    takes-nothing empty w other lost read =
        let same = some_pair_parts v w label other (sym (read-at b v label is at_v) ∙ read) in
        (λ i. member (sym same.1 i) lost && is_lost right y (free_of es marks) u (sym same.0 i) lost) ∙ sym (l.members lost) ∙ none_member loss empty lost

    pub takes-loss : is_empty_set loss ≡ false → TakesAt es right y (free_of es marks) u a place (Remove u v loss)
    takes-loss some = record { target = v; label = label; loss = loss; read = read-at b v label is at_v; is_loss = l; some = some; is = refl }

-- ---- names in strict order
abbrev pub AreStrict : List Name → Type 0
AreStrict = IsStrictlySortedBy (slice_cmp nat_cmp)

strict-at : (ks : List Name) → AreStrict ks → (j k : ℕ) (v w : Name) → slice_get ks j ≡ Some v → slice_get ks k ≡ Some w → j < k → IsBelow v w
unfolding IsStrictlySortedBy
strict-at [] strict j k v w p q low = absurd (none-some v p)
strict-at (x ∷ xs) strict zero zero v w p q low = absurd (omega (arith, low))
strict-at (x ∷ xs) strict zero (suc k) v w p q low = subst (λ (n : Name). IsBelow n w) (same_Some x v p) (all-at (λ (n : Name). slice_cmp nat_cmp x n ≡ Less) xs strict.0 k w q)
strict-at (x ∷ xs) strict (suc j) zero v w p q low = absurd (omega (arith, low))
strict-at (x ∷ xs) strict (suc j) (suc k) v w p q low = strict-at xs strict.1 j k v w p q (omega (arith, low))

below-taken : (ks : List Name) → AreStrict ks → (k : ℕ) (v w : Name) → list_any (same_name v) (take k ks) ≡ true → slice_get ks k ≡ Some w → IsBelow v w
unfolding IsStrictlySortedBy
below-taken [] strict k v w among at = absurd (none-some w at)
below-taken (x ∷ xs) strict zero v w among at = absurd (false≢true among)
below-taken (x ∷ xs) strict (suc k) v w among at = by (or_cases (same_name v x) (list_any (same_name v) (take k xs)) among) (below-taken xs strict.1 k v w)
  where
    by : (same_name v x ≡ true) ⊎ (list_any (same_name v) (take k xs) ≡ true) → (list_any (same_name v) (take k xs) ≡ true → slice_get xs k ≡ Some w → IsBelow v w) → IsBelow v w
    by (inl is) rest = subst (λ (n : Name). IsBelow n w) (sym (same_bytes v x is)) (all-at (λ (n : Name). slice_cmp nat_cmp x n ≡ Less) xs strict.0 k w at)
    by (inr later) rest = rest later at

none_taken : (t : Name → Bool) (ks : List Name) → list_any t (take 0 ks) ≡ false
none_taken t [] = refl
none_taken t (k ∷ ks) = refl

take_one : (ks : List Name) (k : ℕ) (v : Name) → slice_get ks k ≡ Some v → take (k + 1) ks ≡ take k ks ++ v ∷ []
take_one ks k v at = take_more ks k v (slice_get_within ks k v at) ∙ ap (λ (w : Name). take k ks ++ w ∷ []) (get_or_from_slice_get ks k v v at)

or_none : (b : Bool) → (b || false) ≡ b
or_none true = refl
or_none false = refl

-- the names of the vertices before a position that edges go out of
pub record SourcesUpTo (es : Entries) (position : ℕ) (names : List Name) : Type 0 where
  pub apart : IsDistinct bytes_eq names
  pub known : (v : Name) → list_any (same_name v) names ≡ true → list_any (same_name v) (keys_of es) ≡ true
  pub among : (a : ℕ) (v : Name) → slice_get (keys_of es) a ≡ Some v → list_any (same_name v) names ≡ (nat_lt a position && has_edges es a)

none_apart : IsDistinct bytes_eq []
unfolding IsDistinct
none_apart = tt

pub sources-none : (es : Entries) (names : List Name) → names ≡ [] → SourcesUpTo es 0 names
sources-none es names none = subst (SourcesUpTo es 0) (sym none) (record { apart = none_apart; known = λ v h. absurd (false≢true h); among = λ a v at. sym (ap (λ b. b && has_edges es a) (le-ltb a 0 (omega arith))) })

module _ (es : Entries) (ok : IsGraph es) (position : ℕ) (old : List Name) (so_far : SourcesUpTo es position old) where
  -- at another position nothing changes
  before : (a : ℕ) → (a ≡ position → ⊥) → nat_lt a (position + 1) ≡ nat_lt a position
  before a other = by (cases_lt a position)
    where
      by : (a < position) ⊎ (position ≤ a) → nat_lt a (position + 1) ≡ nat_lt a position
      by (inl low) = lt-ltb a (position + 1) (omega (arith, low)) ∙ sym (lt-ltb a position low)
      by (inr high) = le-ltb a (position + 1) (by_high (cases_lt position a)) ∙ sym (le-ltb a position high)
        where
          by_high : (position < a) ⊎ (a ≤ position) → position + 1 ≤ a
          by_high (inl above) = omega (arith, above)
          by_high (inr low) = absurd (other (omega (arith, high, low)))

  -- the next position
  here : nat_lt position (position + 1) ≡ true
  here = lt-ltb position (position + 1) (omega arith)

  not_here : nat_lt position position ≡ false
  not_here = le-ltb position position (omega arith)

  pub source-skipped : has_edges es position ≡ false → SourcesUpTo es (position + 1) old
  source-skipped none = record { apart = so_far.apart; known = so_far.known; among = λ a v at. so_far.among a v at ∙ by a (cases_Bool (eqb a position)) }
    where
      by : (a : ℕ) → (eqb a position ≡ true) ⊎ (eqb a position ≡ false) → (nat_lt a position && has_edges es a) ≡ (nat_lt a (position + 1) && has_edges es a)
      by a (inl same) =
          let is : a ≡ position = eqb-true a position same in
          subst (λ k. (nat_lt k position && has_edges es k) ≡ (nat_lt k (position + 1) && has_edges es k)) (sym is) (ap (λ b. b && has_edges es position) not_here ∙ sym none ∙ sym (ap (λ b. b && has_edges es position) here))
      by a (inr other) = ap (λ b. b && has_edges es a) (sym (before a (eqb-false a position other)))

  pub source-put : (v : Name) (new : List Name) → slice_get (keys_of es) position ≡ Some v → has_edges es position ≡ true → new ≡ old ++ v ∷ [] → SourcesUpTo es (position + 1) new
  source-put v new at some is = subst (SourcesUpTo es (position + 1)) (sym is) (record {
    apart = IsDistinct-push nat_list_eq_equiv old v so_far.apart (so_far.among position v at ∙ ap (λ b. b && has_edges es position) not_here);
    known = λ w h. known w (or_cases (list_any (same_name w) old) (same_name w v) (sym (any_push (same_name w) old v) ∙ h));
    among = λ a w there. any_push (same_name w) old v ∙ by a w there (cases_Bool (same_name w v));
  })
    where
      known : (w : Name) → (list_any (same_name w) old ≡ true) ⊎ (same_name w v ≡ true) → list_any (same_name w) (keys_of es) ≡ true
      known w (inl h) = so_far.known w h
      known w (inr same) = subst (λ (n : Name). list_any (same_name n) (keys_of es) ≡ true) (sym (same_bytes w v same)) (place-known (keys_of es) position v at)

      by : (a : ℕ) (w : Name) → slice_get (keys_of es) a ≡ Some w → (same_name w v ≡ true) ⊎ (same_name w v ≡ false) → (list_any (same_name w) old || same_name w v) ≡ (nat_lt a (position + 1) && has_edges es a)
      by a w there (inl same) =
          let is : a ≡ position = one-position es ok a position v (there ∙ ap Some (same_bytes w v same)) at in
          or_right (list_any (same_name w) old) (same_name w v) same ∙ sym (ap (λ k. nat_lt k (position + 1) && has_edges es k) is ∙ and_from (nat_lt position (position + 1)) (has_edges es position) here some)
      by a w there (inr other) =
          let apart : a ≡ position → ⊥ = λ is. false≢true (sym other ∙ ap (λ (n : Name). same_name n v) (same_Some w v (sym there ∙ ap (slice_get (keys_of es)) is ∙ at)) ∙ same_refl v) in
          ap (λ b. list_any (same_name w) old || b) other ∙ or_none (list_any (same_name w) old) ∙ so_far.among a w there ∙ ap (λ b. b && has_edges es a) (sym (before a apart))

-- by what is found at the next position
module _ (es : Entries) (ok : IsGraph es) (position : ℕ) (low : position < length (keys_of es)) (old : List Name) where
  pub source-found : (new : List Name) → SourcesUpTo es position old → (v : Name) → IsSourceAt es position (Some v) → new ≡ old ++ v ∷ [] → SourcesUpTo es (position + 1) new
  source-found new so_far v at more = by (cases_Bool (has_edges es position))
    where
      by : (has_edges es position ≡ true) ⊎ (has_edges es position ≡ false) → SourcesUpTo es (position + 1) new
      by (inl some) = source-put es ok position old so_far v new (sym (at ∙ ap (λ b. if b then slice_get (keys_of es) position else None) some)) some more
      by (inr none) = absurd (none-some v (sym (at ∙ ap (λ b. if b then slice_get (keys_of es) position else None) none)))

  pub source-missing : SourcesUpTo es position old → (if has_edges es position then slice_get (keys_of es) position else None) ≡ None → SourcesUpTo es (position + 1) old
  source-missing so_far at = by (cases_Bool (has_edges es position))
    where
      by : (has_edges es position ≡ true) ⊎ (has_edges es position ≡ false) → SourcesUpTo es (position + 1) old
      by (inl some) = absurd (names-past es position low (sym (ap (λ b. if b then slice_get (keys_of es) position else None) some) ∙ at))
      by (inr none) = source-skipped es ok position old so_far none

pub sources-whole : (es : Entries) (count : ℕ) (all names : List Name) → length (keys_of es) ≤ count → SourcesUpTo es count all → IsPermutation all names → IsSorted (slice_cmp nat_cmp) names → AreSources es names
sources-whole es count all names high so_far moved sorted = record {
  sorted = strict_from_sorted names sorted (IsDistinct-IsPermutation bytes_eq nat_list_eq_equiv.symm all names moved so_far.apart);
  known = λ v h. so_far.known v (list_any-IsPermutation (same_name v) all names moved ∙ h);
  among = λ a v at. sym (list_any-IsPermutation (same_name v) all names moved) ∙ so_far.among a v at ∙ ap (λ b. b && has_edges es a) (lt-ltb a count (within a v at));
}
  where
    within : (a : ℕ) (v : Name) → slice_get (keys_of es) a ≡ Some v → a < count
    within a v at = let low = slice_get_within (keys_of es) a v at in omega (arith, low, high)

-- ---- the rules for one row
module _ (es : Entries) (ok : IsGraph es) (right : Right) (y : Name) (free : Name → Bool) (u : Name) (a : ℕ) (at_u : slice_get (keys_of es) a ≡ Some u) where
  pub adds-none : (rules : List Rule) → AddsRules es right y free u a 0 rules rules
  adds-none rules = record {
    more = [];
    is = sym (append-nil rules);
    rules = record { each = tt; all = λ place v label lost low read h. absurd (omega (arith, low)); order = tt };
  }

  -- the rule of one of the first places
  abbrev IsOf : ℕ → Rule → Type 0
  IsOf count rule = (place : ℕ) × (place < count) × TakesAt es right y free u a place rule

  -- it takes from an edge of u
  of-source : (count : ℕ) (rule : Rule) → IsOf count rule → (v w : Name) (s : Rights) → rule ≡ Remove v w s → v ≡ u
  of-source count rule o v w s is = (same_remove v w s u o.2.target o.2.loss (sym is ∙ o.2.is)).0

  row-below : (j k : ℕ) (v w : Name) (l m : Rights) → slice_get (row_number es a) j ≡ Some (v, l) → slice_get (row_number es a) k ≡ Some (w, m) → j < k → IsBelow v w
  row-below j k v w l m p q low =
      let row = row_number es a in
      let r = row_of es ok a u at_u in
      let is_row : IsRow row = subst IsRow (sym r.number) r.sorted in
      strict-at (keys_of row) is_row.sorted j k v w (slice_get-map (λ (e : Name × Rights). e.0) row j ∙ ap (option_map (λ (e : Name × Rights). e.0)) p) (slice_get-map (λ (e : Name × Rights). e.0) row k ∙ ap (option_map (λ (e : Name × Rights). e.0)) q) low

  module _ (count : ℕ) (rule : Rule) (t : TakesAt es right y free u a count rule) where
    -- it takes what its edge has to lose
    rule-takes : (v : Name) (label : Rights) (lost : Right) → slice_get (row_number es a) count ≡ Some (v, label) → (member label lost && is_lost right y free u v lost) ≡ true → takes rule u lost v ≡ true
    rule-takes v label lost read h =
        let same = some_pair_parts v t.target label t.label (sym read ∙ t.read) in
        let m : member t.loss lost ≡ true = t.is_loss.members lost ∙ sym (λ i. member (same.1 i) lost && is_lost right y free u (same.0 i) lost) ∙ h in
        ap (λ (r : Rule). takes r u lost v) t.is ∙ and_from (same_name u u && same_name v t.target) (member t.loss lost) (and_from (same_name u u) (same_name v t.target) (same_refl u) (ap (same_name v) (sym same.0) ∙ same_refl v)) m

    -- and comes behind those of the places before
    behind : (more : List Rule) → AllByRecursion (IsOf count) more → AllByRecursion (λ (e : Ends). AllByRecursion (ComesFirst e) (edges_of (rule ∷ []))) (edges_of more)
    behind more each = edges-each (λ v w. AllByRecursion (ComesFirst (record { source = v; target = w })) (edges_of (rule ∷ []))) more (all-map (IsOf count) (λ (r : Rule). (v w : Name) (s : Rights) → r ≡ Remove v w s → AllByRecursion (ComesFirst (record { source = v; target = w })) (edges_of (rule ∷ []))) one more each)
      where
        one : (r : Rule) → IsOf count r → (v w : Name) (s : Rights) → r ≡ Remove v w s → AllByRecursion (ComesFirst (record { source = v; target = w })) (edges_of (rule ∷ []))
        one r o v w s is =
            let same = same_remove v w s u o.2.target o.2.loss (sym is ∙ o.2.is) in
            let below = row-below o.0 count o.2.target t.target o.2.label t.label o.2.read t.read o.1 in
            let first : ComesFirst (record { source = v; target = w }) (record { source = u; target = t.target }) = inr (same.0, subst (λ (n : Name). IsBelow n t.target) (sym same.1) below) in
            subst (λ (q : Rule). AllByRecursion (ComesFirst (record { source = v; target = w })) (edges_of (q ∷ []))) (sym t.is) (first, tt)

    alone-in-order : AreInOrder (edges_of (rule ∷ []))
    alone-in-order = subst (λ (q : Rule). AreInOrder (edges_of (q ∷ []))) (sym t.is) (tt, tt)

    row-put : (more : List Rule) → RowRules es right y free u a count more → RowRules es right y free u a (count + 1) (more ++ rule ∷ [])
    row-put more r = record {
      each = all-append (IsOf (count + 1)) more (rule ∷ []) (all-map (IsOf count) (IsOf (count + 1)) (λ q o. (o.0, (let low = o.1 in omega arith), o.2)) more r.each) ((count, omega arith, t), tt);
      all = λ place v label lost low read h. list_any-append (λ (q : Rule). takes q u lost v) more (rule ∷ []) ∙ by place v label lost read h (cases_lt place count) low;
      order = subst AreInOrder (sym (edges-append more (rule ∷ []))) (order-append (edges_of more) (edges_of (rule ∷ [])) r.order alone-in-order (behind more r.each));
    }
      where
        by : (place : ℕ) (v : Name) (label : Rights) (lost : Right) → slice_get (row_number es a) place ≡ Some (v, label) → (member label lost && is_lost right y free u v lost) ≡ true → (place < count) ⊎ (count ≤ place) → place < count + 1 → (are_taken more u lost v || (takes rule u lost v || false)) ≡ true
        by place v label lost read h (inl low) within = or_left (are_taken more u lost v) (takes rule u lost v || false) (r.all place v label lost low read h)
        by place v label lost read h (inr high) within =
            let is : place ≡ count = omega (arith, high, within) in
            or_right (are_taken more u lost v) (takes rule u lost v || false) (or_left (takes rule u lost v) false (rule-takes v label lost (sym (ap (slice_get (row_number es a)) is) ∙ read) h))

  row-skip : (count : ℕ) (more : List Rule) → TakesNone es right y free u a count → RowRules es right y free u a count more → RowRules es right y free u a (count + 1) more
  row-skip count more none r = record {
    each = all-map (IsOf count) (IsOf (count + 1)) (λ q o. (o.0, (let low = o.1 in omega arith), o.2)) more r.each;
    all = λ place v label lost low read h. by place v label lost read h (cases_lt place count) low;
    order = r.order;
  }
    where
      by : (place : ℕ) (v : Name) (label : Rights) (lost : Right) → slice_get (row_number es a) place ≡ Some (v, label) → (member label lost && is_lost right y free u v lost) ≡ true → (place < count) ⊎ (count ≤ place) → place < count + 1 → are_taken more u lost v ≡ true
      by place v label lost read h (inl low) within = r.all place v label lost low read h
      by place v label lost read h (inr high) within =
          let is : place ≡ count = omega (arith, high, within) in
          absurd (both_ways (member label lost && is_lost right y free u v lost) (none v label lost (sym (ap (slice_get (row_number es a)) is) ∙ read)) h)

  pub adds-more : (count : ℕ) (old now new : List Rule) → AddsRules es right y free u a count old now → AddsLoss es right y free u a count now new → AddsRules es right y free u a (count + 1) old new
  adds-more count old now new so_far (inl n) = record { more = so_far.more; is = n.1 ∙ so_far.is; rules = row-skip count so_far.more n.0 so_far.rules }
  adds-more count old now new so_far (inr p) = record {
    more = so_far.more ++ p.0 ∷ [];
    is = p.2 ∙ ap (λ (rules : List Rule). rules ++ p.0 ∷ []) so_far.is ∙ append_assoc old so_far.more (p.0 ∷ []);
    rules = row-put count p.0 p.1 so_far.more so_far.rules;
  }

-- ---- the rules for all rows
-- the rules for the rows of the first names
pub record RulesUpTo (es : Entries) (right : Right) (y : Name) (free : Name → Bool) (names : List Name) (count : ℕ) (rules : List Rule) : Type 0 where
  pub each : AllByRecursion (IsLossRule (graph_of es) right y free) rules
  pub among : AllByRecursion (λ (e : Ends). list_any (same_name e.source) (take count names) ≡ true) (edges_of rules)
  pub all : (u : Name) (lost : Right) (v : Name) → list_any (same_name u) (take count names) ≡ true → ((graph_of es).holds u lost v && is_lost right y free u v lost) ≡ true → are_taken rules u lost v ≡ true
  pub order : AreInOrder (edges_of rules)

module _ (es : Entries) (ok : IsGraph es) (right : Right) (y : Name) (free : Name → Bool) (names : List Name) (are : AreSources es names) where
  pub up-none : (rules : List Rule) → rules ≡ [] → RulesUpTo es right y free names 0 rules
  up-none rules none = subst (RulesUpTo es right y free names 0) (sym none) (record { each = tt; among = tt; all = λ u lost v among h. absurd (both_ways (list_any (same_name u) (take 0 names)) (none_taken (same_name u) names) among); order = tt })

  module _ (count : ℕ) (u : Name) (at : slice_get names count ≡ Some u) (a : ℕ) (at_u : slice_get (keys_of es) a ≡ Some u) (old more : List Rule) (so_far : RulesUpTo es right y free names count old) (row : RowRules es right y free u a (length (row_number es a)) more) where
    one-more : (v : Name) → list_any (same_name v) (take (count + 1) names) ≡ (list_any (same_name v) (take count names) || same_name v u)
    one-more v = ap (list_any (same_name v)) (take_one names count u at) ∙ any_push (same_name v) (take count names) u

    loss-rule : (rule : Rule) → (place : ℕ) × (place < length (row_number es a)) × TakesAt es right y free u a place rule → IsLossRule (graph_of es) right y free rule
    loss-rule rule o = record {
      source = u;
      target = o.2.target;
      rights = o.2.loss;
      is = o.2.is;
      some = o.2.some;
      named = o.2.is_loss.named;
      members = λ lost. o.2.is_loss.members lost ∙ sym (ap (λ b. b && is_lost right y free u o.2.target lost) (holds-place es ok a u at_u o.0 o.2.target o.2.label lost o.2.read));
    }

    -- the edges of the row come from u
    from-u : AllByRecursion (λ (e : Ends). e.source ≡ u) (edges_of more)
    from-u = edges-each (λ v w. v ≡ u) more (all-map (λ (rule : Rule). (place : ℕ) × (place < length (row_number es a)) × TakesAt es right y free u a place rule) (λ (rule : Rule). (v w : Name) (s : Rights) → rule ≡ Remove v w s → v ≡ u) (λ rule o v w s is. of-source es ok right y free u a at_u (length (row_number es a)) rule o v w s is) more row.each)

    -- and those before come from names before it
    between : AllByRecursion (λ (e : Ends). AllByRecursion (ComesFirst e) (edges_of more)) (edges_of old)
    between = all-map (λ (e : Ends). list_any (same_name e.source) (take count names) ≡ true) (λ (e : Ends). AllByRecursion (ComesFirst e) (edges_of more)) (λ e among. all-map (λ (f : Ends). f.source ≡ u) (ComesFirst e) (λ f is. inl (subst (IsBelow e.source) (sym is) (below-taken names are.sorted count e.source u among at))) (edges_of more) from-u) (edges_of old) so_far.among

    all-rules : (w : Name) (lost : Right) (v : Name) → list_any (same_name w) (take (count + 1) names) ≡ true → ((graph_of es).holds w lost v && is_lost right y free w v lost) ≡ true → are_taken (old ++ more) w lost v ≡ true
    all-rules w lost v among h = list_any-append (λ (q : Rule). takes q w lost v) old more ∙ by (or_cases (list_any (same_name w) (take count names)) (same_name w u) (sym (one-more w) ∙ among))
      where
        by : (list_any (same_name w) (take count names) ≡ true) ⊎ (same_name w u ≡ true) → (are_taken old w lost v || are_taken more w lost v) ≡ true
        by (inl before) = or_left (are_taken old w lost v) (are_taken more w lost v) (so_far.all w lost v before h)
        by (inr is) =
            let same = same_bytes w u is in
            let h_u : ((graph_of es).holds u lost v && is_lost right y free u v lost) ≡ true = subst (λ (n : Name). ((graph_of es).holds n lost v && is_lost right y free n v lost) ≡ true) same h in
            let parts = and_parts ((graph_of es).holds u lost v) (is_lost right y free u v lost) h_u in
            let p = place-holds es ok a u at_u lost v parts.0 in
            let taken = row.all p.0 v p.1 lost (slice_get_within (row_number es a) p.0 (v, p.1) p.2) p.2 (and_from (member p.1 lost) (is_lost right y free u v lost) p.3 parts.1) in
            or_right (are_taken old w lost v) (are_taken more w lost v) (subst (λ (n : Name). are_taken more n lost v ≡ true) (sym same) taken)

    up-row : RulesUpTo es right y free names (count + 1) (old ++ more)
    up-row = record {
      each = all-append (IsLossRule (graph_of es) right y free) old more so_far.each (all-map (λ (rule : Rule). (place : ℕ) × (place < length (row_number es a)) × TakesAt es right y free u a place rule) (IsLossRule (graph_of es) right y free) loss-rule more row.each);
      among = subst (AllByRecursion (λ (e : Ends). list_any (same_name e.source) (take (count + 1) names) ≡ true)) (sym (edges-append old more)) (all-append (λ (e : Ends). list_any (same_name e.source) (take (count + 1) names) ≡ true) (edges_of old) (edges_of more) (all-map (λ (e : Ends). list_any (same_name e.source) (take count names) ≡ true) (λ (e : Ends). list_any (same_name e.source) (take (count + 1) names) ≡ true) (λ e among. one-more e.source ∙ or_left (list_any (same_name e.source) (take count names)) (same_name e.source u) among) (edges_of old) so_far.among) (all-map (λ (e : Ends). e.source ≡ u) (λ (e : Ends). list_any (same_name e.source) (take (count + 1) names) ≡ true) (λ e is. one-more e.source ∙ or_right (list_any (same_name e.source) (take count names)) (same_name e.source u) (ap (λ (n : Name). same_name n u) is ∙ same_refl u)) (edges_of more) from-u));
      all = all-rules;
      order = subst AreInOrder (sym (edges-append old more)) (order-append (edges_of old) (edges_of more) so_far.order row.order between);
    }

  pub up-more : (count : ℕ) (u : Name) (old new : List Rule) → slice_get names count ≡ Some u → RulesUpTo es right y free names count old → (a : ℕ) × (slice_get (keys_of es) a ≡ Some u) × AddsRules es right y free u a (length (row_number es a)) old new → RulesUpTo es right y free names (count + 1) new
  up-more count u old new at so_far (a, at_u, adds) = subst (RulesUpTo es right y free names (count + 1)) (sym adds.is) (up-row count u at a at_u old adds.more so_far adds.rules)

  -- whoever holds something is in the list
  has_name : (u : Name) (lost : Right) (v : Name) → has_vertex (graph_of es) u ≡ true → (graph_of es).holds u lost v ≡ true → list_any (same_name u) names ≡ true
  has_name u lost v known h =
      let p = place_of (keys_of es) u known in
      let q = place-holds es ok p.0 u p.1 lost v h in
      let low = slice_get_within (row_number es p.0) q.0 (v, q.1) q.2 in
      are.among p.0 u p.1 ∙ lt-ltb 0 (length (row_number es p.0)) (omega (arith, low))

  pub up-whole : (count : ℕ) (rules : List Rule) → WellFormed (graph_of es) → length names ≤ count → RulesUpTo es right y free names count rules → AreLosses (graph_of es) right y free rules
  up-whole count rules well high s = record {
    each = s.each;
    all = λ u lost v h. let held = (and_parts ((graph_of es).holds u lost v) (is_lost right y free u v lost) h).0 in s.all u lost v (ap (list_any (same_name u)) (take_all count names high) ∙ has_name u lost v (well.ends u lost v held).0 held) h;
    order = s.order;
  }

  -- a name of the list is a vertex
  pub name-known : (count : ℕ) (u : Name) → slice_get names count ≡ Some u → list_any (same_name u) (keys_of es) ≡ true
  name-known count u at = are.known u (place-known names count u at)
