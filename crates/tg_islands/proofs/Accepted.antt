-- What holds when a rule is accepted.
use Rattle.std.proofs.Common.{◌≡◌, Bool, true, false, not, ◌&&◌, Option, None, refl, sym, ◌∙◌, IsTrue}
use Rattle.std.proofs.lemmas.Bool.{false≢true, not-false}
use Rattle.tg_names.specs.declared.right_sets.Right.{Right}
use Rattle.tg_names.specs.declared.right_sets.Right.TheVariants.{T, G}
use Rattle.tg_names.specs.declared.right_sets.Rights.{Rights}
use Rattle.tg_graph.specs.declared.rules.Rule.TheVariants.{Take, Grant, Create}
use Rattle.tg_graph.specs.declared.rules.Refusal.{Refusal}
use Rattle.tg_graph.specs.declared.rules.Refusal.TheVariants.{Unknown, Taken, Empty, NoTake, NoGrant, NotHeld}
use Rattle.tg_names.specs.Sets.{member, is_empty_set}
use Rattle.tg_names.specs.Names.{Name}
use Rattle.tg_graph.specs.Graphs.{ProtectionGraph, has_vertex}
use Rattle.tg_graph.specs.Rules.{refused_if, unknown, missing, not_held, refusal_of}
use Rattle.tg_names.proofs.Sets.{member-where}
use Rattle.tg_islands.proofs.NameTests.{none_member}

passed : (b : Bool) (r : Refusal) (later : Option Refusal) → refused_if b r later ≡ None → (b ≡ false) × (later ≡ None)
passed true r later h = cc
passed false r later h = (refl, h)

known : (g : ProtectionGraph) (v : Name) (later : Option Refusal) → unknown g v later ≡ None → (has_vertex g v ≡ true) × (later ≡ None)
known g v later h = let p = passed (not (has_vertex g v)) (Unknown v) later h in (not-false _ p.0, p.1)

-- none of the rights of s is missing
held : (g : ProtectionGraph) (x y : Name) (s : Rights) → not_held (missing g x y s) ≡ None → (right : Right) → member s right ≡ true → g.holds x right y ≡ true
held g x y s h right has =
    let p = passed (not (is_empty_set (missing g x y s))) (NotHeld (missing g x y s)) None h in
    let none : (member s right && not (g.holds x right y)) ≡ false = sym (member-where (λ r. member s r && not (g.holds x r y)) right) ∙ none_member (missing g x y s) (not-false _ p.0) right in
    not-false _ (go (member s right) (g.holds x right y) has none)
  where
    go : (a b : Bool) → a ≡ true → (a && not b) ≡ false → not b ≡ false
    go true b e n = n
    go false b e n = absurd (false≢true e)

pub record TakeFacts (g : ProtectionGraph) (x y z : Name) (s : Rights) : Type 0 where
  pub x_there : IsTrue (has_vertex g x)
  pub y_there : IsTrue (has_vertex g y)
  pub z_there : IsTrue (has_vertex g z)
  pub takes : IsTrue (g.holds x T y)
  pub held : (right : Right) → IsTrue (member s right) → IsTrue (g.holds y right z)

pub take_facts : (g : ProtectionGraph) (x y z : Name) (s : Rights) → refusal_of g (Take x y z s) ≡ None → TakeFacts g x y z s
unfolding refusal_of
take_facts g x y z s h =
    let a = known g x _ h in
    let b = known g y _ a.1 in
    let c = known g z _ b.1 in
    let d = passed (is_empty_set s) Empty _ c.1 in
    let e = passed (not (g.holds x T y)) NoTake _ d.1 in
    record { x_there = a.0; y_there = b.0; z_there = c.0; takes = not-false _ e.0; held = held g y z s e.1 }

pub record GrantFacts (g : ProtectionGraph) (x y z : Name) (s : Rights) : Type 0 where
  pub x_there : IsTrue (has_vertex g x)
  pub y_there : IsTrue (has_vertex g y)
  pub z_there : IsTrue (has_vertex g z)
  pub grants : IsTrue (g.holds x G y)
  pub held : (right : Right) → IsTrue (member s right) → IsTrue (g.holds x right z)

pub grant_facts : (g : ProtectionGraph) (x y z : Name) (s : Rights) → refusal_of g (Grant x y z s) ≡ None → GrantFacts g x y z s
unfolding refusal_of
grant_facts g x y z s h =
    let a = known g x _ h in
    let b = known g y _ a.1 in
    let c = known g z _ b.1 in
    let d = passed (is_empty_set s) Empty _ c.1 in
    let e = passed (not (g.holds x G y)) NoGrant _ d.1 in
    record { x_there = a.0; y_there = b.0; z_there = c.0; grants = not-false _ e.0; held = held g x z s e.1 }

pub record CreateFacts (g : ProtectionGraph) (x n : Name) : Type 0 where
  pub x_there : IsTrue (has_vertex g x)
  pub n_new : has_vertex g n ≡ false

pub create_facts : (g : ProtectionGraph) (x n : Name) (s : Rights) → refusal_of g (Create x n s) ≡ None → CreateFacts g x n
unfolding refusal_of
create_facts g x n s h =
    let a = known g x _ h in
    record { x_there = a.0; n_new = (passed (has_vertex g n) (Taken n) None a.1).0 }
