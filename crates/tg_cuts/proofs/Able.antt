-- A test of who can come to have a right in a graph: it is finite.
use Rattle.std.proofs.Common.{◌≡◌, ℕ, zero, suc, ◌<◌, ◌≤◌, ◌^◌, Bool, true, ◌||◌, ◌&&◌, ◌⊎◌, inl, inr, List, [], ◌∷◌, length, sym, subst, IsTrue, arith}
use Rattle.std.specs.List.{list_any}
use Rattle.std.proofs.lemmas.Bool.{false≢true, or_cases, or_left, or_right, and_parts, and_from}
use Rattle.tg_names.specs.declared.right_sets.Right.{Right}
use Rattle.tg_names.specs.Names.{Name, same_name}
use Rattle.tg_graph.specs.Graphs.{ProtectionGraph, has_vertex, WellFormed}
use Rattle.tg_graph.specs.RuleLists.{CanShare}
use Rattle.tg_rows.proofs.Rows.{same_bytes}
use Rattle.tg_islands.specs.Sharing.{linked, IsChain, HeldInIsland, NoRepeat, SharedExactly}
use Rattle.tg_islands.proofs.NameTests.{same_refl}
use Rattle.tg_islands.proofs.OneIsland.{starts, island_refl, island_link, island_trans}
use Rattle.tg_islands.proofs.Short.{cut_short, short_enough}

-- ---- a name of a list that passes
pub any_there : (t : Name → Bool) (vs : List Name) (w : Name) → list_any (same_name w) vs ≡ true → t w ≡ true → list_any t vs ≡ true
any_there t [] w there h = absurd (false≢true there)
any_there t (v ∷ vs) w there h = by (or_cases (same_name w v) (list_any (same_name w) vs) there) (any_there t vs w)
  where
    by : (same_name w v ≡ true) ⊎ (list_any (same_name w) vs ≡ true) → (list_any (same_name w) vs ≡ true → t w ≡ true → list_any t vs ≡ true) → (t v || list_any t vs) ≡ true
    by (inl is) rest = or_left (t v) (list_any t vs) (subst (λ (u : Name). t u ≡ true) (same_bytes w v is) h)
    by (inr later) rest = or_right (t v) (list_any t vs) (rest later h)

pub any_found : (t : Name → Bool) (vs : List Name) → list_any t vs ≡ true → (w : Name) × (list_any (same_name w) vs ≡ true) × (t w ≡ true)
any_found t [] h = absurd (false≢true h)
any_found t (v ∷ vs) h = by (or_cases (t v) (list_any t vs) h) (any_found t vs)
  where
    by : (t v ≡ true) ⊎ (list_any t vs ≡ true) → (list_any t vs ≡ true → (w : Name) × (list_any (same_name w) vs ≡ true) × (t w ≡ true)) → (w : Name) × ((same_name w v || list_any (same_name w) vs) ≡ true) × (t w ≡ true)
    by (inl is) rest = (v, or_left (same_name v v) (list_any (same_name v) vs) (same_refl v), is)
    by (inr later) rest = let r = rest later in (r.0, or_right (same_name r.0 v) (list_any (same_name r.0) vs) r.1, r.2)

-- ---- the test
-- whether v holds the right over y, or one does to which so many links lead at most
abbrev pub can_within : ProtectionGraph → Right → Name → ℕ → Name → Bool
can_within h right y zero v = h.holds v right y
can_within h right y (suc n) v = h.holds v right y || list_any (λ u. linked h v u && can_within h right y n u) h.vertices

-- whether v can come to have the right over y
abbrev pub able : ProtectionGraph → Right → Name → Name → Bool
able h right y v = can_within h right y (length h.vertices) v

module _ (h : ProtectionGraph) (right : Right) (y : Name) where
  within-held : (n : ℕ) (v : Name) → IsTrue (has_vertex h v) → can_within h right y n v ≡ true → HeldInIsland h right v y
  within-held zero v there can = (v, can, island_refl h v there)
  within-held (suc n) v there can = by (or_cases (h.holds v right y) (list_any (λ u. linked h v u && can_within h right y n u) h.vertices) can) (within-held n)
    where
      by : (h.holds v right y ≡ true) ⊎ (list_any (λ u. linked h v u && can_within h right y n u) h.vertices ≡ true) → ((u : Name) → IsTrue (has_vertex h u) → can_within h right y n u ≡ true → HeldInIsland h right u y) → HeldInIsland h right v y
      by (inl holds) rest = (v, holds, island_refl h v there)
      by (inr later) rest =
          let f = any_found (λ u. linked h v u && can_within h right y n u) h.vertices later in
          let parts = and_parts (linked h v f.0) (can_within h right y n f.0) f.2 in
          let held = rest f.0 f.1 parts.1 in
          (held.0, held.1, island_trans h v f.0 held.0 (island_link h v f.0 there f.1 parts.0) held.2)

  holds-within : (n : ℕ) (v : Name) → h.holds v right y ≡ true → can_within h right y n v ≡ true
  holds-within zero v holds = holds
  holds-within (suc n) v holds = or_left (h.holds v right y) (list_any (λ u. linked h v u && can_within h right y n u) h.vertices) holds

  chain-within : (ws : List Name) (n : ℕ) (v s : Name) → IsChain h v ws s → h.holds s right y ≡ true → length ws ≤ n → can_within h right y n v ≡ true
  chain-within [] n v s chain holds few = holds-within n v (subst (λ (u : Name). h.holds u right y ≡ true) (sym chain.0) holds)
  chain-within (w ∷ ws) zero v s chain holds few = absurd (omega (arith, few))
  chain-within (w ∷ ws) (suc n) v s chain holds few =
      let later = chain-within ws n w s chain.2 holds (omega (arith, few)) in
      or_right (h.holds v right y) (list_any (λ u. linked h v u && can_within h right y n u) h.vertices)
      (any_there (λ u. linked h v u && can_within h right y n u) h.vertices w (starts h w ws s chain.2) (and_from (linked h v w) (can_within h right y n w) chain.1 later))

  pub held-able : (v : Name) → HeldInIsland h right v y → able h right y v ≡ true
  held-able v held = let island = held.2 in by (cut_short h v island.0 held.0 island.1)
    where
      by : (short : List Name) × IsChain h v short held.0 × NoRepeat (v ∷ short) → able h right y v ≡ true
      by (short, chain, once) = let few = short_enough h v short held.0 chain once in chain-within short (length h.vertices) v held.0 chain held.1 (omega (arith, few))

  pub able-held : (v : Name) → IsTrue (has_vertex h v) → able h right y v ≡ true → HeldInIsland h right v y
  able-held v there can = within-held (length h.vertices) v there can

  pub able-holds : (v : Name) → h.holds v right y ≡ true → able h right y v ≡ true
  able-holds v holds = holds-within (length h.vertices) v holds

  -- to whom one is linked that can, can
  pub able-link : (u v : Name) → IsTrue (has_vertex h u) → IsTrue (has_vertex h v) → linked h u v ≡ true → able h right y v ≡ true → able h right y u ≡ true
  able-link u v hu hv link can =
      let held = able-held v hv can in
      held-able u (held.0, held.1, island_trans h u v held.0 (island_link h u v hu hv link) held.2)

  module _ (well : WellFormed h) (few : length h.vertices < 2 ^ 64) (shared : SharedExactly) (y_there : IsTrue (has_vertex h y)) where
    pub able-can : (v : Name) → IsTrue (has_vertex h v) → able h right y v ≡ true → CanShare h right v y
    able-can v there can = (shared h right v y well few there y_there).1 (able-held v there can)

    pub can-held : (v : Name) → IsTrue (has_vertex h v) → CanShare h right v y → HeldInIsland h right v y
    can-held v there can = (shared h right v y well few there y_there).0 can

    pub can-able : (v : Name) → IsTrue (has_vertex h v) → CanShare h right v y → able h right y v ≡ true
    can-able v there can = held-able v (can-held v there can)
