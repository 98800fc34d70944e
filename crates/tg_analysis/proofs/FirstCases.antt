-- The soonest claim over each y is its first case, and the first spot of all is the first case.
use Rattle.std.proofs.Common.{◌≡◌, ℕ, ◌<◌, ◌≤◌, ◌+◌, ◌^◌, ◌↔◌, Bool, true, false, List, [], ◌∷◌, ◌++◌, Option, Some, None, length, length-append, slice_get, get_or, bytes_eq, refl, sym, ap, subst, ◌∙◌, arith, true≢false, inl, inr, ◌⊎◌}
use Rattle.std.specs.List.{position}
use Rattle.std.specs.Map.{keys_of}
use Rattle.std.proofs.lemmas.Bool.{cases_lt}
use Rattle.std.proofs.lemmas.Option.{slice_get-get_or, slice_get_within, option_and_then_some}
use Rattle.tg_names.specs.declared.right_sets.Right.{Right}
use Rattle.tg_names.specs.declared.right_sets.Rights.{Rights}
use Rattle.tg_names.specs.Names.{Name}
use Rattle.tg_graph.specs.Graphs.{WellFormed}
use Rattle.tg_graph.specs.GraphOf.{graph_of}
use Rattle.tg_rows.specs.Rows.{Entries, IsGraph}
use Rattle.tg_graph.specs.RuleLists.{CanShare}
use Rattle.tg_graph.proofs.Positions.{at-position}
use Rattle.tg_analysis.specs.declared.cases.Case.{Case}
use Rattle.tg_analysis.specs.declared.cases.Claimed.{Claimed}
use Rattle.tg_analysis.specs.declared.cases.Spot.{Spot}
use Rattle.tg_index.specs.declared.by_target.Held.{Held}
use Rattle.tg_islands.specs.Sharing.{SharedExactly}
use Rattle.tg_islands.specs.Numbering.{AreIslands, number_of}
use Rattle.tg_index.specs.ByTarget.{Listed, AreListed, Leads}
use Rattle.tg_index.specs.HeldInto.{IsSaid}
use Rattle.tg_analysis.specs.Cases.{IsSooner, IsCase, FindsFirst, IsSoonest, CannotShare, StandsAt, ArePlaces, IsFirstBeyond, IsClaim, IsLackOf, place_at, AreNumbersOf, AreNumbersAt, AreHeads}
use Rattle.tg_index.proofs.ByTarget.{index-exact}
use Rattle.tg_islands.proofs.RowEnds.{behind-is}
use Rattle.tg_analysis.proofs.CaseOrder.{soonest-same, IsFirstSpot}

-- ---- numbers for those who are meant
-- where someone is meant stands the number of its island, and nowhere else a number
pub record AreNumbersFor (vertices : List Name) (islands : List ℕ) (who : ℕ → Name → Type 0) (numbers : List ℕ) : Type 0 where
  pub there : (i : ℕ) (x : Name) → who i x → (n : ℕ) × (slice_get numbers i ≡ Some n)
  pub meant : (i n : ℕ) → slice_get numbers i ≡ Some n → (x : Name) × who i x
  pub each : (i n : ℕ) (x : Name) → who i x → slice_get numbers i ≡ Some n → number_of vertices islands x ≡ Some n

module _ (vertices : List Name) (islands : List ℕ) (names : List Name) (by_place : List ℕ) (numbered : AreNumbersOf vertices islands names (length names) by_place) where
  -- of the names themselves
  pub for-names : AreNumbersFor vertices islands (λ i x. slice_get names i ≡ Some x) by_place
  for-names = record {
    there = λ i x at. (get_or by_place i 0, slice_get-get_or by_place i 0 (let low = slice_get_within names i x at in omega (arith, numbered.len)));
    meant = λ i n at. (get_or names i [], slice_get-get_or names i [] (let low = slice_get_within by_place i n at in omega (arith, numbered.len)));
    each = λ i n x at h. numbered.each i n x h at;
  }

  -- of those at places
  pub for-places : (places numbers : List ℕ) → ArePlaces (length names) places → AreNumbersAt by_place places (length places) numbers → AreNumbersFor vertices islands (StandsAt names places) numbers
  for-places places numbers are listed = record {
    there = λ i x at. (get_or numbers i 0, slice_get-get_or numbers i 0 (let low = slice_get_within places i at.0 at.1 in omega (arith, listed.len)));
    meant = λ i n h.
        let low = slice_get_within numbers i n h in
        let place = get_or places i 0 in
        let at = slice_get-get_or places i 0 (omega (arith, listed.len)) in
        (get_or names place [], (place, at, slice_get-get_or names place [] (are i place at)));
    each = λ i n x at h. numbered.each at.0 n x (listed.each i n at.0 h at.1) at.2;
  }

sooner-before : (r s : Right) (first i k : ℕ) → first ≤ i → IsSooner r i s k → IsSooner r first s k
sooner-before r s first i k low (inl h) = inl h
sooner-before r s first i k low (inr h) = inr (h.0, (let less = h.1 in omega arith))

-- ---- over one y
module _ (es : Entries) (ok : IsGraph es) (well : WellFormed (graph_of es)) (shared : SharedExactly) (few : length (keys_of es) < 2 ^ 64) (islands : List ℕ) (are : AreIslands (graph_of es) islands) (list : Listed) (listed : AreListed es list) (rights : Rights) (who whom : ℕ → Name → Type 0) (numbers : List ℕ) (numbered : AreNumbersFor (keys_of es) islands who numbers) where
  abbrev CanClaim : Right → Name → Name → Type 0
  CanClaim right x y = CanShare (graph_of es) right x y

  module _ (j target : ℕ) (y : Name) (at_y : whom j y) (one : (v : Name) → whom j v → v ≡ y) (there : slice_get (keys_of es) target ≡ Some y) (entries : List Held) (said : (right : Right) (number : ℕ) → IsSaid entries right number ↔ Leads islands right number target list) where
    -- an island leads to y exactly where its vertices can come to have the right
    leads-exact : (right : Right) (i n : ℕ) (x : Name) → who i x → slice_get numbers i ≡ Some n → IsSaid entries right n ↔ CanShare (graph_of es) right x y
    leads-exact right i n x at_x at = (λ h. exact.0 ((said right n).0 h), λ c. (said right n).1 (exact.1 c))
      where
        from : (place : ℕ) × (position (bytes_eq x) (keys_of es) ≡ Some place) × (slice_get islands place ≡ Some n)
        from = option_and_then_some (λ place. slice_get islands place) (position (bytes_eq x) (keys_of es)) n (numbered.each i n x at_x at) (λ place p q. (place, p, q))

        exact : Leads islands right n target list ↔ CanShare (graph_of es) right x y
        exact = index-exact es ok well shared few islands are right from.0 target x y (at-position (keys_of es) x from.0 from.1) there n from.2 list listed

    -- the soonest claim is the first case over y
    module _ (places : List (Option ℕ)) (order : List ℕ) (heads : AreHeads numbers (length numbers) places order) where
      -- of each case the island's first place is claimed
      claimed : (right : Right) (i : ℕ) → IsCase CanClaim rights who whom right i j → (first : ℕ) × (first ≤ i) × IsClaim entries places rights (length entries) right first
      claimed right i c =
          let at = numbered.there i c.x c.at_x in
          let head = heads.there at.0 i (slice_get_within numbers i at.0 at.1) at.1 in
          let s = (leads-exact right i at.0 c.x c.at_x at.1).1 (subst (λ v. CanShare (graph_of es) right c.x v) (one c.y c.at_y) c.claimed) in (
            head.0,
            head.1,
            record {
              index = s.place;
              low = slice_get_within entries s.place s.entry s.stands;
              entry = s.entry;
              stands = s.stands;
              claim = record { held = s.held; asked = c.asked; stands = ap (place_at places) s.of ∙ head.2 };
            },
          )

      -- what is claimed is a case
      case_of : (right : Right) (place : ℕ) → IsClaim entries places rights (length entries) right place → IsCase CanClaim rights who whom right place j
      case_of right place c =
          let n = c.entry.number in
          let at = (heads.stands n place c.claim.stands).1 in
          let x = numbered.meant place n at in
          record {
            x = x.0;
            y = y;
            at_x = x.1;
            at_y = at_y;
            asked = c.claim.asked;
            claimed = (leads-exact right place n x.0 x.1 at).0 (record { place = c.index; entry = c.entry; stands = c.stands; of = refl; held = c.claim.held });
          }

      pub shared-soonest : (next : Option Claimed) → IsSoonest (IsClaim entries places rights (length entries)) next → IsSoonest (λ right i. IsCase CanClaim rights who whom right i j) next
      shared-soonest None none = λ right i c. let first = claimed right i c in none right first.0 first.2
      shared-soonest (Some next) found = (case_of next.right next.place found.0, λ right i c s. let first = claimed right i c in found.1 right first.0 first.2 (sooner-before right next.right first.0 i next.place first.1 s))

    -- the soonest claim of those who are not allowed is the first case over y of those
    module _ (is_allowed : ℕ → Bool) (places : List (Option ℕ)) (beyond : (place : ℕ) (entry : Held) → slice_get entries place ≡ Some entry → IsFirstBeyond numbers is_allowed entry.number (place_at places entry.number)) where
      abbrev pub IsMeantBeyond : ℕ → Name → Type 0
      IsMeantBeyond i x = who i x × (is_allowed i ≡ false)

      -- of each case the first place of its island that is not allowed is claimed
      beyond-claimed : (right : Right) (i : ℕ) → IsCase CanClaim rights IsMeantBeyond whom right i j → (first : ℕ) × (first ≤ i) × IsClaim entries places rights (length entries) right first
      beyond-claimed right i c = by (place_at places s.entry.number) refl (beyond s.place s.entry s.stands)
        where
          at : (n : ℕ) × (slice_get numbers i ≡ Some n)
          at = numbered.there i c.x c.at_x.0

          s : IsSaid entries right at.0
          s = (leads-exact right i at.0 c.x c.at_x.0 at.1).1 (subst (λ v. CanShare (graph_of es) right c.x v) (one c.y c.at_y) c.claimed)

          here : slice_get numbers i ≡ Some s.entry.number
          here = at.1 ∙ ap Some (sym s.of)

          not : is_allowed i ≡ true → ⊥
          not held = true≢false (sym held ∙ c.at_x.1)

          by : (o : Option ℕ) → place_at places s.entry.number ≡ o → IsFirstBeyond numbers is_allowed s.entry.number o → (first : ℕ) × (first ≤ i) × IsClaim entries places rights (length entries) right first
          by None e all = absurd (not (all i here))
          by (Some first) e f = (
            first,
            low (cases_lt i first),
            record {
              index = s.place;
              low = slice_get_within entries s.place s.entry s.stands;
              entry = s.entry;
              stands = s.stands;
              claim = record { held = s.held; asked = c.asked; stands = e };
            },
          )
            where
              low : (i < first) ⊎ (first ≤ i) → first ≤ i
              low (inl less) = absurd (not (f.2 i less here))
              low (inr most) = most

      beyond-case : (right : Right) (place : ℕ) → IsClaim entries places rights (length entries) right place → IsCase CanClaim rights IsMeantBeyond whom right place j
      beyond-case right place c =
          let n = c.entry.number in
          let found = subst (IsFirstBeyond numbers is_allowed n) c.claim.stands (beyond c.index c.entry c.stands) in
          let x = numbered.meant place n found.0 in
          record {
            x = x.0;
            y = y;
            at_x = (x.1, found.1);
            at_y = at_y;
            asked = c.claim.asked;
            claimed = (leads-exact right place n x.0 x.1 found.0).0 (record { place = c.index; entry = c.entry; stands = c.stands; of = refl; held = c.claim.held });
          }

      pub beyond-soonest : (next : Option Claimed) → IsSoonest (IsClaim entries places rights (length entries)) next → IsSoonest (λ right i. IsCase CanClaim rights IsMeantBeyond whom right i j) next
      beyond-soonest None none = λ right i c. let first = beyond-claimed right i c in none right first.0 first.2
      beyond-soonest (Some next) found = (beyond-case next.right next.place found.0, λ right i c s. let first = beyond-claimed right i c in found.1 right first.0 first.2 (sooner-before right next.right first.0 i next.place first.1 s))

    -- the soonest lack is the first case over y of those who can't
    case_without : (right : Right) (i : ℕ) → IsLackOf entries numbers rights right i → IsCase (CannotShare (graph_of es)) rights who whom right i j
    case_without right i lack =
        let x = numbered.meant i lack.number lack.stands in
        record {
          x = x.0;
          y = y;
          at_x = x.1;
          at_y = at_y;
          asked = lack.asked;
          claimed = λ can. lack.lacks ((leads-exact right i lack.number x.0 x.1 lack.stands).1 can);
        }

    lack_of : (right : Right) (i : ℕ) → IsCase (CannotShare (graph_of es)) rights who whom right i j → IsLackOf entries numbers rights right i
    lack_of right i c =
        let at = numbered.there i c.x c.at_x in
        record {
          number = at.0;
          stands = at.1;
          asked = c.asked;
          lacks = λ s. c.claimed (subst (λ v. CanShare (graph_of es) right c.x v) (sym (one c.y c.at_y)) ((leads-exact right i at.0 c.x c.at_x at.1).0 s));
        }

    pub unshared-soonest : (next : Option Claimed) → IsSoonest (IsLackOf entries numbers rights) next → IsSoonest (λ right i. IsCase (CannotShare (graph_of es)) rights who whom right i j) next
    unshared-soonest next found = soonest-same (IsLackOf entries numbers rights) (λ right i. IsCase (CannotShare (graph_of es)) rights who whom right i j) case_without lack_of next found

-- ---- the case at the first spot
module _ (claim : Right → Name → Name → Type 0) (rights : Rights) (who whom : ℕ → Name → Type 0) (count : ℕ) (within : (j : ℕ) (y : Name) → whom j y → j < count) where
  pub first-case : (spot : Option Spot) (result : Option Case) → IsFirstSpot (λ right i j. IsCase claim rights who whom right i j) count spot → (spot ≡ None → result ≡ None) → ((s : Spot) (x y : Name) → spot ≡ Some s → who s.x x → whom s.y y → result ≡ Some (record { right = s.right; x = x; y = y })) → FindsFirst claim rights who whom result
  first-case None result none nowhere there = subst (FindsFirst claim rights who whom) (sym (nowhere refl)) (λ right i j c. none right i j (within j c.y c.at_y) c)
  first-case (Some s) result first nowhere there =
      let c = first.1 in
      subst (FindsFirst claim rights who whom) (sym (there s c.x c.y refl c.at_x c.at_y)) (record {
        i = s.x;
        j = s.y;
        at_x = c.at_x;
        at_y = c.at_y;
        asked = c.asked;
        claimed = c.claimed;
        first = λ right k l d e. first.2 right k l (within l d.y d.at_y) d e;
      })

-- ---- places
-- one name stands at a place
pub stands-once : (names : List Name) (places : List ℕ) (i : ℕ) (u v : Name) → StandsAt names places i u → StandsAt names places i v → v ≡ u
stands-once names places i u v (p, at_p, at_u) (q, at_q, at_v) =
    let both : Some p ≡ Some q = sym at_p ∙ at_q in
    let same : p ≡ q = cc in
    let there : Some u ≡ Some v = sym at_u ∙ ap (slice_get names) same ∙ at_v in
    cc

pub stands-within : (names : List Name) (places : List ℕ) (i : ℕ) (v : Name) → StandsAt names places i v → i < length places
stands-within names places i v h = slice_get_within places i h.0 h.1

-- the number at one place more
pub numbers-at-none : (numbers places : List ℕ) → AreNumbersAt numbers places 0 []
numbers-at-none numbers places = record { len = refl; each = λ i n place h at. absurd (let low = slice_get_within {A = ℕ} [] i n h in omega arith) }

pub numbers-at-more : (numbers places : List ℕ) (count place n : ℕ) (listed more : List ℕ) → AreNumbersAt numbers places count listed → slice_get places count ≡ Some place → slice_get numbers place ≡ Some n → more ≡ listed ++ n ∷ [] → AreNumbersAt numbers places (count + 1) more
numbers-at-more numbers places count place n listed more so_far at_place there is = record {
  len = ap length is ∙ length-append listed (n ∷ []) ∙ ap (λ m. m + 1) so_far.len;
  each = λ i m p h at. each i m p at (behind-is ℕ listed n i m (subst (λ (l : List ℕ). slice_get l i ≡ Some m) is h));
}
  where
    each : (i m p : ℕ) → slice_get places i ≡ Some p → (slice_get listed i ≡ Some m) ⊎ ((i ≡ length listed) × (m ≡ n)) → slice_get numbers p ≡ Some m
    each i m p at (inl h) = so_far.each i m p h at
    each i m p at (inr h) =
        let here : i ≡ count = h.0 ∙ so_far.len in
        let both : Some p ≡ Some place = sym at ∙ ap (slice_get places) here ∙ at_place in
        let same : p ≡ place = cc in
        ap (slice_get numbers) same ∙ there ∙ ap Some (sym h.1)

-- they are below what all numbers are below
pub numbers-at-below : (numbers places listed : List ℕ) (bound : ℕ) → AreNumbersAt numbers places (length places) listed → ((k n : ℕ) → slice_get numbers k ≡ Some n → n < bound) → (k n : ℕ) → slice_get listed k ≡ Some n → n < bound
numbers-at-below numbers places listed bound are below k n h =
    let place = get_or places k 0 in
    let at = slice_get-get_or places k 0 (let low = slice_get_within listed k n h in omega (arith, are.len)) in
    below place n (are.each k n place h at)
