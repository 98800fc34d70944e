-- The rights of a set go to x one after another.
use Rattle.std.proofs.Common.{◌≡◌, ℕ, ◌+◌, ◌*◌, ◌^◌, ◌<◌, ◌≤◌, false, ◌⊎◌, inl, inr, List, [], ◌∷◌, length, refl, sym, subst, IsTrue, arith}
use Rattle.std.proofs.lemmas.Bool.{both_ways, cases_Bool}
use Rattle.tg_names.specs.declared.right_sets.Right.{Right}
use Rattle.tg_names.specs.declared.right_sets.Right.TheVariants.{T, G, R, W, E, A, D}
use Rattle.tg_names.specs.declared.right_sets.Rights.{Rights}
use Rattle.tg_names.specs.Sets.{member}
use Rattle.tg_names.specs.Letters.{all_rights}
use Rattle.tg_names.specs.Names.{Name}
use Rattle.tg_graph.specs.Graphs.{ProtectionGraph, has_vertex, WellFormed}
use Rattle.tg_graph.specs.RuleLists.{CanShareAll}
use Rattle.tg_islands.specs.Sharing.{IsChain, HeldInIsland, TogetherAsAlone}
use Rattle.tg_islands.proofs.Short.{cut_short, short_enough}
use Rattle.tg_islands.proofs.OverLinks.{Keeps, Derives, stay, derives_then, at_most, Known, stays, linked_kept}
use Rattle.tg_islands.proofs.AllHeld.{along}
use Rattle.tg_islands.proofs.NoOthers.{no_other}
use Rattle.tg_islands.proofs.StaysWell.{stays_well}

-- a holder at the end of a chain of so many links at most
pub record Near (g : ProtectionGraph) (right : Right) (x y : Name) (n : ℕ) : Type 0 where
  pub holder : Name
  pub chain : List Name
  pub has : IsTrue (g.holds holder right y)
  pub is_chain : IsChain g x chain holder
  pub short : length chain ≤ n

near : (g : ProtectionGraph) (right : Right) (x y : Name) → HeldInIsland g right x y → Near g right x y (length g.vertices)
near g right x y h =
    let r = cut_short g x h.2.0 h.0 h.2.1 in
    let few = short_enough g x r.0 h.0 r.1 r.2 in
    record { holder = h.0; chain = r.0; has = h.1; is_chain = r.1; short = omega (arith, few) }

chain_kept : (g h : ProtectionGraph) (u : Name) (ws : List Name) (v : Name) → Keeps g h → IsChain g u ws v → IsChain h u ws v
chain_kept g h u [] v k c = (c.0, k.vertices u c.1)
chain_kept g h u (w ∷ ws) v k c = (k.vertices u c.0, linked_kept g h u w k c.1, chain_kept g h w ws v k c.2)

near_kept : (g h : ProtectionGraph) (right : Right) (x y : Name) (n : ℕ) → Keeps g h → Near g right x y n → Near h right x y n
near_kept g h right x y n k a = record { holder = a.holder; chain = a.chain; has = k.triples a.holder right y a.has; is_chain = chain_kept g h x a.chain a.holder k a.is_chain; short = a.short }

abbrev In : Right → List Right → Type 0
In right [] = ⊥
In right (r ∷ rs) = (r ≡ right) ⊎ In right rs

abbrev total : ℕ → List Right → ℕ
total n [] = 0
total n (r ∷ rs) = n + total n rs

well_end : (g h : ProtectionGraph) (m c : ℕ) → WellFormed g → Derives g h m c → WellFormed h
well_end g h m c well d = subst WellFormed d.ends (stays_well g d.rules well d.accepted)

gives : (n : ℕ) (s : Rights) (x y : Name) (todo : List Right) (g : ProtectionGraph) → WellFormed g → Known g y → ((right : Right) → IsTrue (member s right) → Near g right x y n) → length g.vertices + total n todo < 2 ^ 70 → (h : ProtectionGraph) × Derives g h (4 * total n todo) (total n todo) × ((right : Right) → In right todo → IsTrue (member s right) → IsTrue (h.holds x right y))
gives n s x y [] g well ky each room = (g, at_most g g 0 (4 * 0) 0 0 (omega arith) (omega arith) (stay g), λ right i m. absurd i)
gives n s x y (r ∷ rs) g well ky each room = go (cases_Bool (member s r)) (λ h. gives n s x y rs h)
  where
    go : (IsTrue (member s r)) ⊎ (member s r ≡ false) → ((h : ProtectionGraph) → WellFormed h → Known h y → ((right : Right) → IsTrue (member s right) → Near h right x y n) → length h.vertices + total n rs < 2 ^ 70 → (k : ProtectionGraph) × Derives h k (4 * total n rs) (total n rs) × ((right : Right) → In right rs → IsTrue (member s right) → IsTrue (k.holds x right y))) → (h : ProtectionGraph) × Derives g h (4 * total n (r ∷ rs)) (total n (r ∷ rs)) × ((right : Right) → In right (r ∷ rs) → IsTrue (member s right) → IsTrue (h.holds x right y))
    go (inr e) rest =
        let b = rest g well ky each (omega (arith, room)) in
        (b.0, at_most g b.0 (4 * total n rs) (4 * total n (r ∷ rs)) (total n rs) (total n (r ∷ rs)) (omega arith) (omega arith) b.1, λ right i m. elim i [ inl e' ↦ absurd (both_ways (member s r) e (subst (λ t. IsTrue (member s t)) (sym e') m)) | inr i' ↦ b.2 right i' m ])
    go (inl e) rest =
        let c = each r e in
        let a = along g r y well ky x c.chain c.holder c.is_chain c.has (omega (arith, room, c.short)) in
        let d = at_most g a.0 (4 * length c.chain) (4 * n) (length c.chain) n (omega (arith, c.short)) (omega (arith, c.short)) a.1 in
        let b = rest a.0 (well_end g a.0 _ _ well d) (stays g a.0 y d.keeps ky) (λ right m. near_kept g a.0 right x y n d.keeps (each right m)) (omega (arith, room, d.room)) in
        (b.0, at_most g b.0 (4 * n + 4 * total n rs) (4 * total n (r ∷ rs)) (n + total n rs) (total n (r ∷ rs)) (omega arith) (omega arith) (derives_then g a.0 b.0 (4 * n) (4 * total n rs) n (total n rs) d b.1), λ right i m. elim i [ inl e' ↦ b.1.keeps.triples x right y (subst (λ t. IsTrue ((a.0).holds x t y)) e' a.2) | inr i' ↦ b.2 right i' m ])

in_all : (right : Right) → In right all_rights
in_all T = inl refl
in_all G = inr (inl refl)
in_all R = inr (inr (inl refl))
in_all W = inr (inr (inr (inl refl)))
in_all E = inr (inr (inr (inr (inl refl))))
in_all A = inr (inr (inr (inr (inr (inl refl)))))
in_all D = inr (inr (inr (inr (inr (inr (inl refl))))))

share_all : (g : ProtectionGraph) (s : Rights) (x y : Name) → WellFormed g → length g.vertices < 2 ^ 64 → IsTrue (has_vertex g y) → ((right : Right) → IsTrue (member s right) → HeldInIsland g right x y) → CanShareAll g s x y
share_all g s x y well room y_there each =
    let n = length g.vertices in
    let r = gives n s x y all_rights g well (record { there = y_there; is_name = well.names y y_there }) (λ right m. near g right x y (each right m)) (omega (arith, room)) in
    (r.1.rules, r.1.accepted, λ right m. subst (λ t. IsTrue (t.holds x right y)) (sym r.1.ends) (r.2 right (in_all right) m))

pub together : TogetherAsAlone
together g s x y well room x_there y_there =
    (λ all right m. no_other g right x y well x_there y_there (all.0, all.1, all.2 right m), share_all g s x y well room y_there)
