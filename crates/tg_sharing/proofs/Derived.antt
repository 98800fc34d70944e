-- A derivation from the way of a right and the rules that carried it.
use Rattle.std.proofs.Common.{◌≡◌, ℕ, ◌*◌, ◌-◌, ◌<◌, ◌≤◌, List, [], ◌∷◌, length, refl, sym, ap, subst, IsTrue, arith}
use Rattle.tg_names.specs.declared.right_sets.Right.{Right}
use Rattle.tg_graph.specs.declared.rules.Rule.{Rule}
use Rattle.tg_graph.specs.Limits.{most_vertices}
use Rattle.tg_names.specs.Names.{Name}
use Rattle.tg_graph.specs.Graphs.{ProtectionGraph, has_vertex, WellFormed}
use Rattle.tg_graph.specs.RuleLists.{CanShare}
use Rattle.tg_islands.specs.Sharing.{IsChain, HeldInIsland}
use Rattle.tg_sharing.specs.Derivations.{end_of, IsUnderway, IsCarried, IsPart, DerivationsAreShort}
use Rattle.tg_sharing.specs.SetDerivations.{AddsPart}
use Rattle.tg_sharing.specs.Searches.{IsWay}
use Rattle.tg_islands.proofs.Short.{short_enough}
use Rattle.tg_islands.proofs.NoOthers.{no_other}

pub chain_end : (g : ProtectionGraph) (u : Name) (ws : List Name) (v : Name) → IsChain g u ws v → end_of u ws ≡ v
chain_end g u [] v c = c.0
chain_end g u (w ∷ ws) v c = chain_end g w ws v c.2

-- ---- the answers
none_from_length : (rules : List Rule) (links : List Name) → links ≡ [] → length rules ≤ 4 * length links → rules ≡ []
none_from_length [] links e few = refl
none_from_length (r ∷ rs) links e few = absurd (omega (arith, ap length e))

module _ (g : ProtectionGraph) (well : WellFormed g) (right : Right) (x y : Name) where
  pub way_short : (holder : Name) (links : List Name) → IsWay g right x y holder links → length links < length g.vertices
  way_short holder links way = short_enough g holder links x way.joined way.apart

  -- the part of the right that went along the way
  pub part_added : (holder : Name) (links : List Name) (old new : List Rule) (next last : ℕ) → IsWay g right x y holder links → length g.vertices ≤ most_vertices → IsCarried g right y holder links old new next last → AddsPart g right x y old new next last
  part_added holder links old new next last way small c = record {
    underway = subst (λ v. IsUnderway g right y v new last) (chain_end g holder links x way.joined) c.underway;
    kept = c.kept;
    part = c.part;
    is_part = record {
      holder = holder;
      chain = links;
      held = way.held;
      joined = way.joined;
      apart = way.apart;
      shortest = way.shortest;
      moves = c.moves;
      few = c.few;
      none = λ has. none_from_length c.part links (way.none has) c.few;
    };
    is = c.is;
    low = omega (arith, c.low, way_short holder links way, small);
  }

  pub way_joined : (holder : Name) (links : List Name) → IsWay g right x y holder links → IsChain g holder links (end_of holder links)
  way_joined holder links way = subst (λ v. IsChain g holder links v) (sym (chain_end g holder links x way.joined)) way.joined

  pub none_derives : IsTrue (has_vertex g x) → IsTrue (has_vertex g y) → (HeldInIsland g right x y → ⊥) → CanShare g right x y → ⊥
  none_derives x_there y_there none can = none (no_other g right x y well x_there y_there can)

pub part_short : (g now : ProtectionGraph) (right : Right) (x y : Name) (rules : List Rule) → IsPart g now right x y rules → length rules ≤ 4 * (length g.vertices - 1)
part_short g now right x y rules p = omega (arith, p.few, short_enough g p.holder p.chain x p.joined p.apart)

pub derivations_are_short : DerivationsAreShort
derivations_are_short g right x y rules d = part_short g g right x y rules d.part
