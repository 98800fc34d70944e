-- Which edges cross those that are near, and how many.
use Rattle.std.specs.Prelude.{◌≡◌, ◌≤◌, ℕ, Bool, true, false, not, List, count_by, slice_get, Some}
use Rattle.tg_flow.specs.declared.edges.FlowEdge.{FlowEdge}
use Rattle.tg_flow.specs.declared.edges.Role.{Role}
use Rattle.tg_flow.specs.declared.edges.Role.TheVariants.{Link, End, Both}
use Rattle.tg_flow.specs.Flows.{crosses, IsClosed}
use Rattle.tg_flow.specs.Filling.{IsFull}
use Rattle.tg_flow.specs.Sides.{AreNear, AreBeyond}

-- as many edges cross the near ones as units have gone, none of them kept; as many at least cross each set with x that no kept edge crosses; and each that is crossed by no more has all of the near ones
pub record AreFewest (edges : List FlowEdge) (x units : ℕ) (near : ℕ → Bool) : Type 0 where
  pub closed : IsClosed near edges
  pub crossed : count_by (crosses near) edges ≡ units
  pub least : (s : ℕ → Bool) → IsClosed s edges → s x ≡ true → units ≤ count_by (crosses s) edges
  pub inside : (s : ℕ → Bool) → IsClosed s edges → s x ≡ true → count_by (crosses s) edges ≤ units → (v : ℕ) → near v ≡ true → s v ≡ true

-- once no more units can go, the edges that cross the near ones are the fewest, and the nearest of these
abbrev pub UnitsCross : Type 0
UnitsCross = (edges : List FlowEdge) (x units : ℕ) → IsFull edges x units → (near : ℕ → Bool) → AreNear edges x near → AreFewest edges x units near

abbrev pub leads_out : Role → Bool
leads_out Link = false
leads_out End = true
leads_out Both = true

-- whoever is near is not beyond; and each edge that crosses the set of all that are not beyond, crosses the near ones
pub record AreParted (edges : List FlowEdge) (near others : ℕ → Bool) : Type 0 where
  pub apart : (v : ℕ) → near v ≡ true → others v ≡ false
  pub crossing : (k : ℕ) (e : FlowEdge) → slice_get edges k ≡ Some e → crosses (λ v. not (others v)) e ≡ true → crosses near e ≡ true

-- so it is where the sources of edges to the end count among those beyond, or each of these edges crosses the near ones anyway
abbrev pub SidesPart : Type 0
SidesPart = (edges : List FlowEdge) (has_holders : Bool) (near others : ℕ → Bool) → AreBeyond edges has_holders near others → ((k : ℕ) (e : FlowEdge) → slice_get edges k ≡ Some e → has_holders ≡ false → leads_out e.role ≡ true → crosses near e ≡ true) → AreParted edges near others
