-- What islands hold by the edges so far, and that the whole says what can be shared.
use Rattle.std.proofs.Common.{◌≡◌, ℕ, ◌<◌, ◌≤◌, ◌+◌, ◌^◌, ◌↔◌, Bool, true, false, List, [], replicate, refl, sym, ap, subst, ◌∙◌, nat_eq, nat_lt, cond, length, slice_get, get_or, Option, Some, None, arith, true≢false, inl, inr, ◌⊎◌, ◌||◌, IsTrue}
use Rattle.std.specs.Map.{keys_of}
use Rattle.std.specs.Option.{option_map}
use Rattle.std.proofs.lemmas.Bool.{cases_lt, eqb-true, lt-ltb, ltb-true}
use Rattle.std.proofs.lemmas.Option.{slice_get-get_or, slice_get_within, slice_get_past}
use Rattle.std.proofs.lemmas.List.Folds.{Any-from_list_any}
use Rattle.std.proofs.lemmas.List.{length-replicate, get_or-replicate}
use Rattle.std.proofs.Math.ListN.{get_or-eq_default}
use Rattle.tg_names.specs.declared.right_sets.Right.{Right}
use Rattle.tg_names.specs.Names.{Name}
use Rattle.tg_graph.specs.Graphs.{WellFormed}
use Rattle.tg_graph.specs.GraphOf.{graph_of}
use Rattle.tg_rows.specs.Rows.{Entries, IsGraph}
use Rattle.tg_graph.specs.RuleLists.{CanShare}
use Rattle.tg_islands.specs.Sharing.{SharedExactly}
use Rattle.tg_islands.specs.Numbering.{AreCounted, AreIslands}
use Rattle.tg_analysis.specs.Holdings.{is_marked, holds_over, JoinsHoldings}
use Rattle.tg_index.specs.IslandEdges.{HasEdge, HasEdgeFrom}
use Rattle.tg_analysis.specs.Gathered.{TakesEdges, Gathers}
use Rattle.tg_analysis.specs.Tables.{table_cell, TellsWhether, IsPairTable}
use Rattle.tg_index.proofs.IslandEdges.{edge-exact}

either : (a b : Bool) → (a || b) ≡ true → (a ≡ true) ⊎ (b ≡ true)
either true b h = inl refl
either false b h = inr h

left : (a b : Bool) → a ≡ true → (a || b) ≡ true
left a b h = ap (λ t. t || b) h

right_of : (a b : Bool) → b ≡ true → (a || b) ≡ true
right_of true b h = refl
right_of false b h = h

-- numbers are counted in one way
few : (numbers : List ℕ) (m n : ℕ) → AreCounted numbers m → AreCounted numbers n → m < n → ⊥
few numbers m n first second h =
    let any = Any-from_list_any (nat_eq m) numbers (second.used m h) in
    let here : slice_get numbers any.0 ≡ Some any.1 = slice_get-get_or numbers any.0 any.1 any.2 ∙ ap Some any.3 in
    let below : any.1 < m = first.below any.0 any.1 here in
    let is : m ≡ any.1 = eqb-true m any.1 any.4 in omega arith

pub one_count : (numbers : List ℕ) (m n : ℕ) → AreCounted numbers m → AreCounted numbers n → m ≡ n
one_count numbers m n first second = by (cases_lt m n) (cases_lt n m)
  where
    by : (m < n) ⊎ (n ≤ m) → (n < m) ⊎ (m ≤ n) → m ≡ n
    by (inl h) k = absurd (few numbers m n first second h)
    by (inr h) (inl k) = absurd (few numbers n m second first k)
    by (inr h) (inr k) = omega arith

-- islands that hold nothing
nothing_held : (count number b : ℕ) → holds_over (replicate count []) number b ≡ false
nothing_held count number b = ap (λ (marks : List Bool). is_marked marks b) (by (cases_lt number count))
  where
    by : (number < count) ⊎ (count ≤ number) → get_or {A = List Bool} (replicate count []) number [] ≡ []
    by (inl h) = get_or-replicate {A = List Bool} count number [] [] h
    by (inr h) = get_or-eq_default {A = List Bool} (replicate count []) [] (omega (arith, length-replicate {A = List Bool} count []))

module _ (es : Entries) (numbers : List ℕ) (right : Right) where
  -- nothing was gathered yet
  pub gathers-none : (count first : ℕ) → AreCounted numbers count → Gathers es numbers right first first (replicate count [])
  gathers-none count first counted = record {
    counted = subst (AreCounted numbers) (sym (length-replicate count [])) counted;
    held = λ number b. (λ h. absurd (true≢false (sym h ∙ nothing_held count number b)), λ e. absurd (let from = e.from in let before = e.before in omega arith));
  }

  -- the edges out of one more vertex
  pub gathers-row : (first a count : ℕ) (old new : List (List Bool)) → first ≤ a → Gathers es numbers right first a old → TakesEdges es numbers right a count old new → ((number b place : ℕ) → HasEdge es numbers right number b a place → place < count) → Gathers es numbers right first (a + 1) new
  gathers-row first a count old new within g t all = record {
    counted = subst (AreCounted numbers) (sym t.len) g.counted;
    held = λ number b. (λ h. forth number b ((t.held number b).0 h), back number b);
  }
    where
      forth : (number b : ℕ) → IsTrue (holds_over old number b) ⊎ ((place : ℕ) × (place < count) × HasEdge es numbers right number b a place) → HasEdgeFrom es numbers right first (a + 1) number b
      forth number b (inl h) = let e = (g.held number b).0 h in record { a = e.a; place = e.place; from = e.from; before = (let before = e.before in omega arith); edge = e.edge }
      forth number b (inr h) = record { a = a; place = h.0; from = within; before = omega arith; edge = h.2 }

      back : (number b : ℕ) → HasEdgeFrom es numbers right first (a + 1) number b → IsTrue (holds_over new number b)
      back number b e = by (cases_lt e.a a)
        where
          by : (e.a < a) ⊎ (a ≤ e.a) → IsTrue (holds_over new number b)
          by (inl l) = (t.held number b).1 (inl ((g.held number b).1 (record { a = e.a; place = e.place; from = e.from; before = l; edge = e.edge })))
          by (inr l) =
              let is : e.a ≡ a = (let before = e.before in omega arith) in
              let edge = subst (λ n. HasEdge es numbers right number b n e.place) is e.edge in
              (t.held number b).1 (inr (e.place, all number b e.place edge, edge))

  -- two neighbouring blocks together
  pub gathers-joined : (first middle last : ℕ) (old new other : List (List Bool)) → first ≤ middle → middle ≤ last → Gathers es numbers right middle last old → Gathers es numbers right first middle other → JoinsHoldings old new other → Gathers es numbers right first last new
  gathers-joined first middle last old new other low high g before joins = record {
    counted = subst (AreCounted numbers) (sym joins.len) g.counted;
    held = λ number b. (λ h. forth number b (either (holds_over old number b) (holds_over other number b) (sym (joins.held number b) ∙ h)), back number b);
  }
    where
      forth : (number b : ℕ) → (holds_over old number b ≡ true) ⊎ (holds_over other number b ≡ true) → HasEdgeFrom es numbers right first last number b
      forth number b (inl h) = let e = (g.held number b).0 h in record { a = e.a; place = e.place; from = (let from = e.from in omega arith); before = e.before; edge = e.edge }
      forth number b (inr h) = let e = (before.held number b).0 h in record { a = e.a; place = e.place; from = e.from; before = (let less = e.before in omega arith); edge = e.edge }

      back : (number b : ℕ) → HasEdgeFrom es numbers right first last number b → IsTrue (holds_over new number b)
      back number b e = by (cases_lt e.a middle)
        where
          by : (e.a < middle) ⊎ (middle ≤ e.a) → IsTrue (holds_over new number b)
          by (inl l) = joins.held number b ∙ right_of (holds_over old number b) (holds_over other number b) ((before.held number b).1 (record { a = e.a; place = e.place; from = e.from; before = l; edge = e.edge }))
          by (inr l) = joins.held number b ∙ left (holds_over old number b) (holds_over other number b) ((g.held number b).1 (record { a = e.a; place = e.place; from = l; before = e.before; edge = e.edge }))

-- ---- what was gathered from every vertex says what can be shared
module _ (es : Entries) (ok : IsGraph es) (well : WellFormed (graph_of es)) (shared : SharedExactly) (few_vertices : length (keys_of es) < 2 ^ 64) (numbers : List ℕ) (are : AreIslands (graph_of es) numbers) (right : Right) (held : List (List Bool)) (g : Gathers es numbers right 0 (length (keys_of es)) held) where
  pub cell-exact : (i j : ℕ) (x y : Name) → slice_get (keys_of es) i ≡ Some x → slice_get (keys_of es) j ≡ Some y → (number : ℕ) → slice_get numbers i ≡ Some number → IsTrue (holds_over held number j) ↔ CanShare (graph_of es) right x y
  cell-exact i j x y at_x at_y number of_x =
      let exact = edge-exact es ok well shared few_vertices numbers are right i j x y at_x at_y number of_x in
      (λ h. exact.0 ((g.held number j).0 h), λ c. (g.held number j).1 (exact.1 c))

  pub table-exact : IsPairTable (graph_of es) right (record { numbers = numbers; held = held })
  table-exact = record {
    len = are.len;
    inside = λ i j x y at_x at_y. inside i j x y at_x at_y;
    outside = λ i j past. outside i j past;
  }
    where
      Cell : ℕ → ℕ → Option Bool
      Cell i j = table_cell (record { numbers = numbers; held = held }) i j

      inside : (i j : ℕ) (x y : Name) → slice_get (keys_of es) i ≡ Some x → slice_get (keys_of es) j ≡ Some y → TellsWhether (CanShare (graph_of es) right x y) (table_cell (record { numbers = numbers; held = held }) i j)
      inside i j x y at_x at_y =
          let low : i < length numbers = subst (λ n. i < n) (sym are.len) (slice_get_within (keys_of es) i x at_x) in
          let within : j < length numbers = subst (λ n. j < n) (sym are.len) (slice_get_within (keys_of es) j y at_y) in
          let of_x : slice_get numbers i ≡ Some (get_or numbers i 0) = slice_get-get_or numbers i 0 low in
          record {
            answer = holds_over held (get_or numbers i 0) j;
            is = ap (λ b. cond b (option_map (λ number. holds_over held number j) (slice_get numbers i)) None) (lt-ltb j (length numbers) within) ∙ ap (option_map (λ number. holds_over held number j)) of_x;
            exact = cell-exact i j x y at_x at_y (get_or numbers i 0) of_x;
          }

      outside : (i j : ℕ) → (length (keys_of es) ≤ i) ⊎ (length (keys_of es) ≤ j) → table_cell (record { numbers = numbers; held = held }) i j ≡ None
      outside i j (inl h) = by (nat_lt j (length numbers))
        where
          none : slice_get numbers i ≡ None
          none = slice_get_past numbers i (subst (λ n. n ≤ i) (sym are.len) h)

          by : (b : Bool) → cond b (option_map (λ number. holds_over held number j) (slice_get numbers i)) None ≡ None
          by true = ap (option_map (λ number. holds_over held number j)) none
          by false = refl
      outside i j (inr h) = ap (λ b. cond b (option_map (λ number. holds_over held number j) (slice_get numbers i)) None) (by (nat_lt j (length numbers)) refl)
        where
          by : (b : Bool) → nat_lt j (length numbers) ≡ b → nat_lt j (length numbers) ≡ false
          by true e = absurd (let lt : j < length numbers = ltb-true j (length numbers) e in omega (arith, are.len))
          by false e = e
