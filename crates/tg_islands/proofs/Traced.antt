-- Each vertex has an origin among the opening vertices, and each right over an opening vertex was held in the island of its holder's origin.
use Rattle.std.proofs.Common.{◌≡◌, true, false, ◌⊎◌, inl, inr, None, refl, sym, ◌∙◌, subst, IsTrue, if◌then◌else◌}
use Rattle.std.proofs.lemmas.Bool.{and_parts, or_cases, or_left, or_right, cond-true, cond-false, both_ways, false_from_ne_true}
use Rattle.tg_names.specs.declared.right_sets.Right.{Right}
use Rattle.tg_names.specs.declared.right_sets.Right.TheVariants.{T, G}
use Rattle.tg_names.specs.declared.right_sets.Rights.{Rights}
use Rattle.tg_graph.specs.declared.rules.Rule.{Rule}
use Rattle.tg_graph.specs.declared.rules.Rule.TheVariants.{Take, Grant, Create, Remove}
use Rattle.tg_names.specs.Sets.{member}
use Rattle.tg_names.specs.Names.{Name, same_name}
use Rattle.tg_graph.specs.Graphs.{ProtectionGraph, has_vertex, WellFormed}
use Rattle.tg_graph.specs.Rules.{refusal_of, with_edge, after}
use Rattle.tg_islands.specs.Sharing.{linked, InOneIsland}
use Rattle.tg_islands.proofs.NameTests.{same_refl, same_false, any_push, edge_cases}
use Rattle.tg_islands.proofs.Accepted.{take_facts, grant_facts, CreateFacts, create_facts}
use Rattle.tg_islands.proofs.OneIsland.{island_refl, island_sym, island_trans, island_link}

-- the right over an opening vertex v was held in a's island; v is new, and its origin c lies in a's island
abbrev pub Kept : ProtectionGraph → Name → Right → Name → Name → Type 0
Kept g a right v c = (IsTrue (has_vertex g v) × (s : Name) × IsTrue (g.holds s right v) × InOneIsland g a s) ⊎ ((has_vertex g v ≡ false) × InOneIsland g a c)

pub record Traced (g h : ProtectionGraph) (origin : Name → Name) : Type 0 where
  pub opening : (v : Name) → IsTrue (has_vertex g v) → (origin v ≡ v) × IsTrue (has_vertex h v)
  pub based : (v : Name) → IsTrue (has_vertex h v) → IsTrue (has_vertex g (origin v))
  pub ends : (u : Name) (right : Right) (v : Name) → IsTrue (h.holds u right v) → IsTrue (has_vertex h u) × IsTrue (has_vertex h v)
  pub kept : (u : Name) (right : Right) (v : Name) → IsTrue (h.holds u right v) → Kept g (origin u) right v (origin v)

pub traced_start : (g : ProtectionGraph) → WellFormed g → Traced g g (λ v. v)
traced_start g well = record {
  opening = λ v there. (refl, there);
  based = λ v there. there;
  ends = well.ends;
  kept = λ u right v has. inl ((well.ends u right v has).1, u, has, island_refl g u (well.ends u right v has).0);
}

kept_near : (g : ProtectionGraph) (a b : Name) (right : Right) (v c : Name) → InOneIsland g a b → Kept g b right v c → Kept g a right v c
kept_near g a b right v c near (inl k) = inl (k.0, k.1, k.2, island_trans g a b k.1 near k.3)
kept_near g a b right v c near (inr k) = inr (k.0, island_trans g a b c near k.1)

take_links : (g : ProtectionGraph) (u v : Name) → IsTrue (g.holds u T v) → IsTrue (linked g u v)
take_links g u v h = or_left _ (g.holds v G u) (or_left _ (g.holds v T u) (or_left _ (g.holds u G v) h))

grant_links : (g : ProtectionGraph) (u v : Name) → IsTrue (g.holds u G v) → IsTrue (linked g u v)
grant_links g u v h = or_left _ (g.holds v G u) (or_left _ (g.holds v T u) (or_right (g.holds u T v) _ h))

-- take and grant go between vertices whose origins lie in one island
near_over : (g h : ProtectionGraph) (o : Name → Name) → WellFormed g → Traced g h o → (right : Right) → ((u v : Name) → IsTrue (g.holds u right v) → IsTrue (linked g u v)) → (u v : Name) → IsTrue (h.holds u right v) → InOneIsland g (o u) (o v)
near_over g h o well t right links u v has = go (t.kept u right v has)
  where
    go : Kept g (o u) right v (o v) → InOneIsland g (o u) (o v)
    go (inl k) =
        let ends = well.ends k.1 right v k.2 in
        subst (λ w. InOneIsland g (o u) w) (sym (t.opening v k.0).0) (island_trans g (o u) k.1 v k.3 (island_link g k.1 v ends.0 ends.1 (links k.1 v k.2)))
    go (inr k) = k.1

-- with rights that the new holder's island had
traced_edge : (g h : ProtectionGraph) (o : Name → Name) (x z : Name) (s : Rights) → Traced g h o → IsTrue (has_vertex h x) → IsTrue (has_vertex h z) → ((right : Right) → IsTrue (member s right) → Kept g (o x) right z (o z)) → Traced g (record { vertices = h.vertices; holds = with_edge h.holds x z s }) o
traced_edge g h o x z s t x_there z_there new = record {
  opening = t.opening;
  based = t.based;
  ends = λ u right v has. elim (edge_cases h.holds x z s u right v has) [ inl e ↦ t.ends u right v e | inr e ↦ ends_new u right v e ];
  kept = λ u right v has. elim (edge_cases h.holds x z s u right v has) [ inl e ↦ t.kept u right v e | inr e ↦ kept_new u right v e ];
}
  where
    ends_new : (u : Name) (right : Right) (v : Name) → (u ≡ x) × (v ≡ z) × (member s right ≡ true) → IsTrue (has_vertex h u) × IsTrue (has_vertex h v)
    ends_new u right v p = (subst (λ w. IsTrue (has_vertex h w)) (sym p.0) x_there, subst (λ w. IsTrue (has_vertex h w)) (sym p.1) z_there)

    kept_new : (u : Name) (right : Right) (v : Name) → (u ≡ x) × (v ≡ z) × (member s right ≡ true) → Kept g (o u) right v (o v)
    kept_new u right v p = subst (λ w. Kept g (o w) right v (o v)) (sym p.0) (subst (λ w. Kept g (o x) right w (o w)) (sym p.1) (new right p.2))

pub traced_take : (g h : ProtectionGraph) (o : Name → Name) (x y z : Name) (s : Rights) → WellFormed g → Traced g h o → refusal_of h (Take x y z s) ≡ None → Traced g (after h (Take x y z s)) o
unfolding after
traced_take g h o x y z s well t accepted =
    let f = take_facts h x y z s accepted in
    let near = near_over g h o well t T (take_links g) x y f.takes in
    traced_edge g h o x z s t f.x_there f.z_there (λ right has. kept_near g (o x) (o y) right z (o z) near (t.kept y right z (f.held right has)))

pub traced_grant : (g h : ProtectionGraph) (o : Name → Name) (x y z : Name) (s : Rights) → WellFormed g → Traced g h o → refusal_of h (Grant x y z s) ≡ None → Traced g (after h (Grant x y z s)) o
unfolding after
traced_grant g h o x y z s well t accepted =
    let f = grant_facts h x y z s accepted in
    let near = island_sym g (o x) (o y) (near_over g h o well t G (grant_links g) x y f.grants) in
    traced_edge g h o y z s t f.y_there f.z_there (λ right has. kept_near g (o y) (o x) right z (o z) near (t.kept x right z (f.held right has)))

pub traced_remove : (g h : ProtectionGraph) (o : Name → Name) (x y : Name) (s : Rights) → Traced g h o → Traced g (after h (Remove x y s)) o
unfolding after
traced_remove g h o x y s t = record {
  opening = t.opening;
  based = t.based;
  ends = λ u right v has. t.ends u right v (and_parts (h.holds u right v) _ has).0;
  kept = λ u right v has. t.kept u right v (and_parts (h.holds u right v) _ has).0;
}

-- the created vertex has its creator's origin
abbrev pub with_origin : (Name → Name) → Name → Name → Name → Name
with_origin o n x v = if same_name v n then o x else o v

pub traced_create : (g h : ProtectionGraph) (o : Name → Name) (x n : Name) (s : Rights) → Traced g h o → refusal_of h (Create x n s) ≡ None → Traced g (after h (Create x n s)) (with_origin o n x)
unfolding after
traced_create g h o x n s t accepted = record {
  opening = λ v there. let old = t.opening v there in (old_origin v old.1 ∙ old.0, old_there v old.1);
  based = λ v there. elim (or_cases (has_vertex h v) (same_name v n) (sym (any_push (same_name v) h.vertices n) ∙ there)) [ inl e ↦ subst (λ w. IsTrue (has_vertex g w)) (sym (old_origin v e)) (t.based v e) | inr e ↦ subst (λ w. IsTrue (has_vertex g w)) (sym (cond-true (same_name v n) (o x) (o v) e)) (t.based x f.x_there) ];
  ends = λ u right v has. elim (edge_cases h.holds x n s u right v has) [ inl e ↦ (old_there u (t.ends u right v e).0, old_there v (t.ends u right v e).1) | inr e ↦ ends_new u right v e ];
  kept = λ u right v has. elim (edge_cases h.holds x n s u right v has) [ inl e ↦ kept_old u right v e | inr e ↦ kept_new u right v e ];
}
  where
    f : CreateFacts h x n
    f = create_facts h x n s accepted

    o' : Name → Name
    o' = with_origin o n x

    old_origin : (v : Name) → IsTrue (has_vertex h v) → o' v ≡ o v
    old_origin v there = cond-false (same_name v n) (o x) (o v) (same_false v n (λ e. both_ways (has_vertex h n) f.n_new (subst (λ w. IsTrue (has_vertex h w)) e there)))

    new_origin : o' n ≡ o x
    new_origin = cond-true (same_name n n) (o x) (o n) (same_refl n)

    old_there : (v : Name) → IsTrue (has_vertex h v) → IsTrue (has_vertex (after h (Create x n s)) v)
    old_there v there = any_push (same_name v) h.vertices n ∙ or_left (has_vertex h v) (same_name v n) there

    ends_new : (u : Name) (right : Right) (v : Name) → (u ≡ x) × (v ≡ n) × (member s right ≡ true) → IsTrue (has_vertex (after h (Create x n s)) u) × IsTrue (has_vertex (after h (Create x n s)) v)
    ends_new u right v p = (
      subst (λ w. IsTrue (has_vertex (after h (Create x n s)) w)) (sym p.0) (old_there x f.x_there),
      subst (λ w. IsTrue (has_vertex (after h (Create x n s)) w)) (sym p.1) (any_push (same_name n) h.vertices n ∙ or_right (has_vertex h n) (same_name n n) (same_refl n)),
    )

    kept_old : (u : Name) (right : Right) (v : Name) → IsTrue (h.holds u right v) → Kept g (o' u) right v (o' v)
    kept_old u right v e = subst (λ w. Kept g w right v (o' v)) (sym (old_origin u (t.ends u right v e).0)) (subst (λ w. Kept g (o u) right v w) (sym (old_origin v (t.ends u right v e).1)) (t.kept u right v e))

    n_late : has_vertex g n ≡ false
    n_late = false_from_ne_true (has_vertex g n) (λ e. both_ways (has_vertex h n) f.n_new (t.opening n e).1)

    near : InOneIsland g (o' x) (o' n)
    near = subst (λ w. InOneIsland g w (o' n)) (sym (old_origin x f.x_there)) (subst (λ w. InOneIsland g (o x) w) (sym new_origin) (island_refl g (o x) (t.based x f.x_there)))

    kept_new : (u : Name) (right : Right) (v : Name) → (u ≡ x) × (v ≡ n) × (member s right ≡ true) → Kept g (o' u) right v (o' v)
    kept_new u right v p = subst (λ w. Kept g (o' w) right v (o' v)) (sym p.0) (subst (λ w. Kept g (o' x) right w (o' w)) (sym p.1) (inr (n_late, near)))

-- one rule
pub traced_rule : (g h : ProtectionGraph) (o : Name → Name) (rule : Rule) → WellFormed g → Traced g h o → refusal_of h rule ≡ None → (o' : Name → Name) × Traced g (after h rule) o'
traced_rule g h o (Take x y z s) well t a = (o, traced_take g h o x y z s well t a)
traced_rule g h o (Grant x y z s) well t a = (o, traced_grant g h o x y z s well t a)
traced_rule g h o (Create x n s) well t a = (with_origin o n x, traced_create g h o x n s t a)
traced_rule g h o (Remove x y s) well t a = (o, traced_remove g h o x y s t)
