-- The first right, x and y of which something holds: by right in the order of the letters, then by the place of x, then by that of y.
use Rattle.std.specs.Prelude.{◌≡◌, ℕ, ◌<◌, ◌≤◌, ◌+◌, ◌^◌, ◌↔◌, Bool, true, false, ◌||◌, ◌&&◌, IsTrue, if◌then◌else◌, nat_eq, nat_lt, bytes_eq, List, length, position, slice_get, slice_index_or, unwrap_or, Option, Some, None, ◌⊎◌}
use Rattle.std.specs.BTreeMap.{get, BTreeMap}
use Rattle.std.specs.Map.{keys_of}
use Rattle.std.specs.Ordering.{nat_cmp}
use Rattle.tg_names.specs.declared.right_sets.Right.{Right}
use Rattle.tg_names.specs.declared.right_sets.Rights.{Rights}
use Rattle.tg_names.specs.Sets.{member, nothing, bit_of, IsNamed}
use Rattle.tg_names.specs.Names.{Name}
use Rattle.tg_graph.specs.Graphs.{ProtectionGraph, WellFormed, has_vertex}
use Rattle.tg_graph.specs.GraphOf.{graph_of}
use Rattle.tg_rows.specs.Rows.{Entries, IsGraph}
use Rattle.tg_graph.specs.RuleLists.{CanShare}
use Rattle.tg_analysis.specs.declared.cases.Case.{Case}
use Rattle.tg_analysis.specs.declared.cases.Claimed.{Claimed}
use Rattle.tg_analysis.specs.declared.cases.Spot.{Spot}
use Rattle.tg_index.specs.declared.by_target.Held.{Held}
use Rattle.tg_analysis.specs.declared.case_index.Beyond.{Beyond}
use Rattle.tg_islands.specs.Numbering.{AreIslands, number_of}
use Rattle.tg_index.specs.HeldInto.{IsSaid}
use Rattle.tg_index.specs.ByTarget.{Listed, AreListed, Leads}

-- the first comes sooner: by right in the order of the letters, which is that of their bits, then by place
abbrev pub IsSooner : Right → ℕ → Right → ℕ → Type 0
IsSooner r i s k = (bit_of r < bit_of s) ⊎ ((r ≡ s) × (i < k))

-- the first comes earlier: by right, then by the place of x, then by that of y
abbrev pub IsEarlier : Right → ℕ → ℕ → Right → ℕ → ℕ → Type 0
IsEarlier r i j s k l = IsSooner r i s k ⊎ ((r ≡ s) × (i ≡ k) × (j < l))

-- ---- who and whom: which names are meant at which places
-- the name that stands at one of the places of a list
abbrev pub StandsAt : List Name → List ℕ → ℕ → Name → Type 0
StandsAt names places i v = (place : ℕ) × (slice_get places i ≡ Some place) × (slice_get names place ≡ Some v)

-- whether the place is marked
abbrev pub is_marked : List Bool → ℕ → Bool
is_marked marks place = slice_index_or marks place false

-- the name at a place that is not marked
abbrev pub StandsUnmarked : List Name → List Bool → ℕ → Name → Type 0
StandsUnmarked names marks place v = (slice_get names place ≡ Some v) × (is_marked marks place ≡ false)

-- each is a place of a list of so many
abbrev pub ArePlaces : ℕ → List ℕ → Type 0
ArePlaces count places = (i place : ℕ) → slice_get places i ≡ Some place → place < count

-- ---- cases
-- the claim holds of the right, which is of the set, of the x that is meant at one place and of the y that is meant at another
pub record IsCase (claim : Right → Name → Name → Type 0) (rights : Rights) (who whom : ℕ → Name → Type 0) (right : Right) (i j : ℕ) : Type 0 where
  pub x : Name
  pub y : Name
  pub at_x : who i x
  pub at_y : whom j y
  pub asked : IsTrue (member rights right)
  pub claimed : claim right x y

-- the claim holds of this case, and of none that comes earlier
pub record IsFirst (claim : Right → Name → Name → Type 0) (rights : Rights) (who whom : ℕ → Name → Type 0) (found : Case) : Type 0 where
  pub i : ℕ
  pub j : ℕ
  pub at_x : who i found.x
  pub at_y : whom j found.y
  pub asked : IsTrue (member rights found.right)
  pub claimed : claim found.right found.x found.y
  pub first : (right : Right) (k l : ℕ) → IsCase claim rights who whom right k l → IsEarlier right k l found.right i j → ⊥

-- the first case of which the claim holds; none where it holds of none
abbrev pub FindsFirst : (Right → Name → Name → Type 0) → Rights → (ℕ → Name → Type 0) → (ℕ → Name → Type 0) → Option Case → Type 0
FindsFirst claim rights who whom None = (right : Right) (i j : ℕ) → IsCase claim rights who whom right i j → ⊥
FindsFirst claim rights who whom (Some found) = IsFirst claim rights who whom found

-- x can't come to have the right over y
abbrev pub CannotShare : ProtectionGraph → Right → Name → Name → Type 0
CannotShare g right x y = CanShare g right x y → ⊥

-- each of the names is a vertex
abbrev pub AreVertices : ProtectionGraph → List Name → Type 0
AreVertices g names = (i : ℕ) (v : Name) → slice_get names i ≡ Some v → has_vertex g v ≡ true

-- ---- rights with places, and spots
-- whether the first comes sooner
abbrev pub is_sooner : Right → ℕ → Right → ℕ → Bool
is_sooner r i s k = nat_lt (bit_of r) (bit_of s) || (nat_eq (bit_of r) (bit_of s) && nat_lt i k)

-- the claim holds of the right with the place, and of none that comes sooner; none where it holds of none
abbrev pub IsSoonest : (Right → ℕ → Type 0) → Option Claimed → Type 0
IsSoonest claim None = (right : Right) (place : ℕ) → claim right place → ⊥
IsSoonest claim (Some found) = claim found.right found.place × ((right : Right) (place : ℕ) → claim right place → IsSooner right place found.right found.place → ⊥)

-- the second where it comes sooner, else the first
abbrev pub sooner_of : Option Claimed → Option Claimed → Option Claimed
sooner_of None next = next
sooner_of (Some best) None = Some best
sooner_of (Some best) (Some next) = if is_sooner next.right next.place best.right best.place then Some next else Some best

-- the spot of what is claimed of one y more, where that comes sooner, else the spot so far
abbrev pub earlier_of : Option Spot → Option Claimed → ℕ → Option Spot
earlier_of None None y = None
earlier_of (Some spot) None y = Some spot
earlier_of None (Some next) y = Some (record { right = next.right; x = next.place; y = y })
earlier_of (Some spot) (Some next) y = if is_sooner next.right next.place spot.right spot.x then Some (record { right = next.right; x = next.place; y = y }) else Some spot

-- the right is in both sets
abbrev pub IsInBoth : Rights → Rights → Right → Type 0
IsInBoth one other right = IsTrue (member one right) × IsTrue (member other right)

-- the first right in the order of the letters that is in both sets, if one is
abbrev pub IsFirstInBoth : Rights → Rights → Option Right → Type 0
IsFirstInBoth one other None = (right : Right) → IsInBoth one other right → ⊥
IsFirstInBoth one other (Some first) = IsInBoth one other first × ((right : Right) → IsInBoth one other right → bit_of right < bit_of first → ⊥)

-- ---- what islands hold over one y
-- the entries stand in rising order of their numbers
abbrev pub AreRising : List Held → Type 0
AreRising entries = (i j : ℕ) (a b : Held) → i < j → slice_get entries i ≡ Some a → slice_get entries j ≡ Some b → a.number < b.number

-- the place that a list has at a number, if it has one
abbrev pub place_at : List (Option ℕ) → ℕ → Option ℕ
place_at places n = slice_index_or places n None

-- an entry says so of a right of the set and of an island which the place stands for
pub record IsClaimOf (entry : Held) (places : List (Option ℕ)) (rights : Rights) (right : Right) (place : ℕ) : Type 0 where
  pub held : IsTrue (member entry.label right)
  pub asked : IsTrue (member rights right)
  pub stands : place_at places entry.number ≡ Some place

-- one of the first so many entries does
pub record IsClaim (entries : List Held) (places : List (Option ℕ)) (rights : Rights) (count : ℕ) (right : Right) (place : ℕ) : Type 0 where
  pub index : ℕ
  pub low : index < count
  pub entry : Held
  pub stands : slice_get entries index ≡ Some entry
  pub claim : IsClaimOf entry places rights right place

-- the rights of a number, none where it has none
abbrev pub rights_under : BTreeMap ℕ Rights → ℕ → Rights
rights_under held number = unwrap_or (get nat_cmp held number) nothing

-- under each number exactly the rights that the first so many entries say
pub record JoinsUpTo (entries : List Held) (count : ℕ) (held : BTreeMap ℕ Rights) : Type 0 where
  pub named : (number : ℕ) → IsNamed (rights_under held number)
  pub members : (number : ℕ) (right : Right) → IsTrue (member (rights_under held number) right) ↔ ((index : ℕ) × (index < count) × (entry : Held) × (slice_get entries index ≡ Some entry) × (entry.number ≡ number) × IsTrue (member entry.label right))

-- the island of the number at a place lacks the right, which is of the set
pub record IsLackOf (entries : List Held) (numbers : List ℕ) (rights : Rights) (right : Right) (place : ℕ) : Type 0 where
  pub number : ℕ
  pub stands : slice_get numbers place ≡ Some number
  pub asked : IsTrue (member rights right)
  pub lacks : IsSaid entries right number → ⊥

-- the number at the place is of an island that lacks the right
abbrev pub IsWithout : List Held → List ℕ → Right → ℕ → Type 0
IsWithout entries numbers right place = (number : ℕ) × (slice_get numbers place ≡ Some number) × (IsSaid entries right number → ⊥)

-- the first of the places of which that is so, if it is of one
abbrev pub IsFirstWithout : List Held → List ℕ → List ℕ → Right → Option ℕ → Type 0
IsFirstWithout entries numbers places right None = (t place : ℕ) → slice_get places t ≡ Some place → IsWithout entries numbers right place → ⊥
IsFirstWithout entries numbers places right (Some found) = (t : ℕ) × (slice_get places t ≡ Some found) × IsWithout entries numbers right found × ((s place : ℕ) → s < t → slice_get places s ≡ Some place → IsWithout entries numbers right place → ⊥)

-- the same, if the right is of the set
abbrev pub IsClaimWithout : List Held → List ℕ → List ℕ → Rights → Right → Option Claimed → Type 0
IsClaimWithout entries numbers places rights right None = IsTrue (member rights right) → IsFirstWithout entries numbers places right None
IsClaimWithout entries numbers places rights right (Some found) = (found.right ≡ right) × IsTrue (member rights right) × IsFirstWithout entries numbers places right (Some found.place)

-- ---- first places
-- the numbers of the islands of the names, in turn
pub record AreNumbersOf (vertices : List Name) (islands : List ℕ) (names : List Name) (count : ℕ) (numbers : List ℕ) : Type 0 where
  pub len : length numbers ≡ count
  pub each : (i n : ℕ) (v : Name) → slice_get numbers i ≡ Some n → slice_get names i ≡ Some v → number_of vertices islands v ≡ Some n

-- the numbers that stand at the first so many of the places
pub record AreNumbersAt (numbers places : List ℕ) (count : ℕ) (listed : List ℕ) : Type 0 where
  pub len : length listed ≡ count
  pub each : (i n place : ℕ) → slice_get listed i ≡ Some n → slice_get places i ≡ Some place → slice_get numbers place ≡ Some n

-- each number in front of the position has a place at which it stands, before which it doesn't; and these places, and no others, are listed in rising order
pub record AreHeads (numbers : List ℕ) (position : ℕ) (places : List (Option ℕ)) (order : List ℕ) : Type 0 where
  pub stands : (number place : ℕ) → place_at places number ≡ Some place → (place < position) × (slice_get numbers place ≡ Some number)
  pub there : (number place : ℕ) → place < position → slice_get numbers place ≡ Some number → (first : ℕ) × (first ≤ place) × (place_at places number ≡ Some first)
  pub listed : (number first : ℕ) → place_at places number ≡ Some first → (t : ℕ) × (slice_get order t ≡ Some first)
  pub heads : (t place : ℕ) → slice_get order t ≡ Some place → (number : ℕ) × (place_at places number ≡ Some place)
  pub within : (t place : ℕ) → slice_get order t ≡ Some place → place < position
  pub rising : (s t a b : ℕ) → s < t → slice_get order s ≡ Some a → slice_get order t ≡ Some b → a < b

-- ---- members of islands, by the places of their names
-- the first place from the position on at which the number stands, if it stands at one
abbrev pub IsLeastFrom : List ℕ → ℕ → ℕ → Option ℕ → Type 0
IsLeastFrom numbers n position None = (k : ℕ) → position ≤ k → slice_get numbers k ≡ Some n → ⊥
IsLeastFrom numbers n position (Some place) = (position ≤ place) × (slice_get numbers place ≡ Some n) × ((k : ℕ) → position ≤ k → slice_get numbers k ≡ Some n → place ≤ k)

-- by number its first place from the position on, and by place from there on the next place of the same number
pub record AreMembersFrom (numbers : List ℕ) (position : ℕ) (firsts nexts : List (Option ℕ)) : Type 0 where
  pub len : length nexts ≡ length numbers
  pub first : (n : ℕ) → IsLeastFrom numbers n position (place_at firsts n)
  pub next : (place n : ℕ) → position ≤ place → slice_get numbers place ≡ Some n → IsLeastFrom numbers n (place + 1) (place_at nexts place)

-- the first place at which the number stands and that is not allowed, if there is one
abbrev pub IsFirstBeyond : List ℕ → (ℕ → Bool) → ℕ → Option ℕ → Type 0
IsFirstBeyond numbers is_allowed n None = (k : ℕ) → slice_get numbers k ≡ Some n → is_allowed k ≡ true
IsFirstBeyond numbers is_allowed n (Some place) = (slice_get numbers place ≡ Some n) × (is_allowed place ≡ false) × ((k : ℕ) → k < place → slice_get numbers k ≡ Some n → is_allowed k ≡ true)

-- of each island that was looked at the place is that of its first member that is not allowed, if there is one
pub record HasLooked (numbers : List ℕ) (is_allowed : ℕ → Bool) (beyond : Beyond) : Type 0 where
  pub looked : (n : ℕ) → is_marked beyond.looked.items n ≡ true → IsFirstBeyond numbers is_allowed n (place_at beyond.places.items n)

-- ---- what islands hold over each of the first so many names
-- by the edges that are listed
pub record AreHeldBy (vertices : List Name) (numbers : List ℕ) (listed : Listed) (names : List Name) (count : ℕ) (held : List (List Held)) : Type 0 where
  pub len : length held ≡ count
  pub rising : (place : ℕ) (entries : List Held) → slice_get held place ≡ Some entries → AreRising entries
  pub said : (place target : ℕ) (v : Name) (entries : List Held) → slice_get held place ≡ Some entries → slice_get names place ≡ Some v → position (bytes_eq v) vertices ≡ Some target → (right : Right) (number : ℕ) → IsSaid entries right number ↔ Leads numbers right number target listed

-- by the edges of the graph
pub record AreHeldOver (es : Entries) (numbers : List ℕ) (names : List Name) (held : List (List Held)) : Type 0 where
  pub list : Listed
  pub listed : AreListed es list
  pub by_edges : AreHeldBy (keys_of es) numbers list names (length names) held

-- ---- an index
-- its graph, and the names in the order that is meant
pub record CaseIndexed : Type 0 where
  pub graph : Entries
  pub names : List Name

-- by the place of a name the number of its island and what islands hold over it, and the members of each island
pub record IsIndexed (es : Entries) (names : List Name) (numbers : List ℕ) (held : List (List Held)) (firsts nexts : List (Option ℕ)) : Type 0 where
  pub graph : IsGraph es
  pub well_formed : WellFormed (graph_of es)
  pub few : length (keys_of es) < 2 ^ 64
  pub known : AreVertices (graph_of es) names
  pub islands : List ℕ
  pub are_islands : AreIslands (graph_of es) islands
  pub numbered : AreNumbersOf (keys_of es) islands names (length names) numbers
  pub below : (k n : ℕ) → slice_get numbers k ≡ Some n → n < length firsts
  pub held_over : AreHeldOver es islands names held
  pub members : AreMembersFrom numbers 0 firsts nexts
