-- What a vertex of x's island holds goes along the chain to x.
use Rattle.std.proofs.Common.{suc, ◌+◌, ◌*◌, ◌^◌, ◌<◌, List, [], ◌∷◌, length, sym, subst, IsTrue, arith}
use Rattle.tg_names.specs.declared.right_sets.Right.{Right}
use Rattle.tg_names.specs.Names.{Name}
use Rattle.tg_graph.specs.Graphs.{ProtectionGraph, has_vertex, WellFormed}
use Rattle.tg_islands.specs.Sharing.{IsChain, FewRules, SharedExactly}
use Rattle.tg_islands.proofs.OneIsland.{starts}
use Rattle.tg_islands.proofs.NoOthers.{no_other}
use Rattle.tg_islands.proofs.Short.{cut_short, short_enough}
use Rattle.tg_islands.proofs.OverLinks.{Keeps, stay, derives_then, at_most, Known, stays, Moved, link_of, link_kept, move}

known : (g : ProtectionGraph) → WellFormed g → (v : Name) → IsTrue (has_vertex g v) → Known g v
known g well v h = record { there = h; is_name = well.names v h }

pub along : (g : ProtectionGraph) (right : Right) (y : Name) → WellFormed g → Known g y → (u : Name) (ws : List Name) (s : Name) → IsChain g u ws s → IsTrue (g.holds s right y) → length g.vertices + length ws < 2 ^ 70 → Moved g u y right (4 * length ws) (length ws)
along g right y well ky u [] s c has room = (g, at_most g g 0 (4 * 0) 0 0 (omega arith) (omega arith) (stay g), subst (λ t. IsTrue (g.holds t right y)) (sym c.0) has)
along g right y well ky u (w ∷ ws) s c has room =
    let a = along g right y well ky w ws s c.2 has (omega (arith, room)) in
    let h = a.0 in
    let k : Keeps g h = a.1.keeps in
    let ku = stays g h u k (known g well u c.0) in
    let kw = stays g h w k (known g well w (starts g w ws s c.2)) in
    let b = move h u w y right ku kw (stays g h y k ky) a.2 (omega (arith, room, a.1.room)) (link_kept g h u w k (link_of g u w c.1)) in
    (b.0, at_most g b.0 (4 * length ws + 4) (4 * suc (length ws)) (length ws + 1) (suc (length ws)) (omega arith) (omega arith) (derives_then g h b.0 (4 * length ws) 4 (length ws) 1 a.1 b.1), b.2)

pub few_rules : FewRules
few_rules g right x y well room held =
    let r = cut_short g x held.2.0 held.0 held.2.1 in
    let few = short_enough g x r.0 held.0 r.1 r.2 in
    let ky = known g well y (well.ends held.0 right y held.1).1 in
    let m = along g right y well ky x r.0 held.0 r.1 held.1 (omega (arith, few, room)) in
    (held.0, r.0, m.1.rules, held.1, r.1, r.2, m.1.accepted, subst (λ t. IsTrue (t.holds x right y)) (sym m.1.ends) m.2, m.1.few)

pub shared_exactly : SharedExactly
shared_exactly g right x y well room x_there y_there =
    (no_other g right x y well x_there y_there, λ held. let f = few_rules g right x y well room held in (f.2, f.6, f.7))
