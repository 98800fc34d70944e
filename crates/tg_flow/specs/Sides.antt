-- Who is near a position, and who comes to the end beyond those.
use Rattle.std.specs.Prelude.{◌≡◌, ℕ, Bool, true, List}
use Rattle.tg_flow.specs.declared.edges.FlowEdge.{FlowEdge}
use Rattle.tg_flow.specs.declared.courses.Course.TheVariants.{Near, Beyond}
use Rattle.tg_flow.specs.Courses.{nobody, IsWhole}

-- the least set with x that no unit can go on from
pub record AreNear (edges : List FlowEdge) (x : ℕ) (near : ℕ → Bool) : Type 0 where
  pub first : near x ≡ true
  pub whole : IsWhole Near nobody near edges
  pub least : (s : ℕ → Bool) → s x ≡ true → IsWhole Near nobody s edges → (v : ℕ) → near v ≡ true → s v ≡ true

-- the least set of those that come to the end without the near ones
pub record AreBeyond (edges : List FlowEdge) (has_holders : Bool) (near others : ℕ → Bool) : Type 0 where
  pub whole : IsWhole (Beyond has_holders) near others edges
  pub least : (s : ℕ → Bool) → IsWhole (Beyond has_holders) near s edges → (v : ℕ) → others v ≡ true → s v ≡ true
