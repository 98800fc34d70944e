-- When a rule is accepted, and the sets that a derivation carries.
use Rattle.std.proofs.Common.{◌≡◌, Bool, true, false, not, ◌&&◌, ◌⊎◌, inl, inr, Option, None, refl, sym, ap, ◌∙◌, subst, IsTrue, lit<}
use Rattle.std.proofs.lemmas.Bool.{true≢false, eq-eqb, and_left, and_right, not_from_true}
use Rattle.tg_names.specs.declared.right_sets.Right.{Right}
use Rattle.tg_names.specs.declared.right_sets.Right.TheVariants.{T, G, R, W, E, A, D}
use Rattle.tg_names.specs.declared.right_sets.Rights.{Rights}
use Rattle.tg_graph.specs.declared.rules.Rule.TheVariants.{Take, Grant, Create}
use Rattle.tg_graph.specs.declared.rules.Refusal.{Refusal}
use Rattle.tg_graph.specs.declared.rules.Refusal.TheVariants.{Unknown}
use Rattle.tg_names.specs.Sets.{member, is_empty_set, IsNamed, nothing}
use Rattle.tg_islands.specs.Moves.{only, take_and_grant}
use Rattle.tg_names.specs.Names.{Name}
use Rattle.tg_graph.specs.Graphs.{ProtectionGraph, has_vertex}
use Rattle.tg_graph.specs.Rules.{refused_if, unknown, missing, not_held, refusal_of}
use Rattle.tg_names.proofs.Sets.{same_set, member-where, named-where, member-nothing}
use Rattle.tg_names.proofs.RightsWords.{one_alone}

pub only_named : (right : Right) → IsNamed (only right)
only_named T = lit< tt
only_named G = lit< tt
only_named R = lit< tt
only_named W = lit< tt
only_named E = lit< tt
only_named A = lit< tt
only_named D = lit< tt

pub take_and_grant_named : IsNamed take_and_grant
take_and_grant_named = lit< tt

pub only_full : (right : Right) → is_empty_set (only right) ≡ false
only_full T = refl
only_full G = refl
only_full R = refl
only_full W = refl
only_full E = refl
only_full A = refl
only_full D = refl

pub only_cases : (a b : Right) → (member (only a) b ≡ false) ⊎ (a ≡ b)
only_cases a b = by (member (only a) b) refl
  where
    by : (m : Bool) → member (only a) b ≡ m → (member (only a) b ≡ false) ⊎ (a ≡ b)
    by true e = inr (one_alone a b e)
    by false e = inl e

no_member : (s : Rights) → IsNamed s → ((right : Right) → member s right ≡ false) → is_empty_set s ≡ true
no_member s named none = eq-eqb s.0 0 (ap (λ (r : Rights). r.0) (same_set s nothing (λ right. none right ∙ sym (member-nothing right)) named (lit< tt)))

pass : (b : Bool) (r : Refusal) (later : Option Refusal) → b ≡ false → later ≡ None → refused_if b r later ≡ None
pass true r later h l = absurd (true≢false h)
pass false r later h l = l

know : (g : ProtectionGraph) (v : Name) (later : Option Refusal) → has_vertex g v ≡ true → later ≡ None → unknown g v later ≡ None
know g v later there l = pass (not (has_vertex g v)) (Unknown v) later (not_from_true _ there) l

-- one right that is held is not missing
has_only : (g : ProtectionGraph) (x y : Name) (right : Right) → IsTrue (g.holds x right y) → not_held (missing g x y (only right)) ≡ None
has_only g x y right has = pass _ _ None (not_from_true _ (no_member (missing g x y (only right)) (named-where (λ r. member (only right) r && not (g.holds x r y))) (λ r. member-where (λ r'. member (only right) r' && not (g.holds x r' y)) r ∙ each r (only_cases right r)))) refl
  where
    each : (r : Right) → (member (only right) r ≡ false) ⊎ (right ≡ r) → (member (only right) r && not (g.holds x r y)) ≡ false
    each r (inl e) = and_left (member (only right) r) _ e
    each r (inr e) = and_right (member (only right) r) _ (not_from_true _ (subst (λ r'. g.holds x r' y ≡ true) e has))

pub take_accepted : (g : ProtectionGraph) (x y z : Name) (right : Right) → IsTrue (has_vertex g x) → IsTrue (has_vertex g y) → IsTrue (has_vertex g z) → IsTrue (g.holds x T y) → IsTrue (g.holds y right z) → refusal_of g (Take x y z (only right)) ≡ None
unfolding refusal_of
take_accepted g x y z right hx hy hz takes has =
    know g x _ hx (know g y _ hy (know g z _ hz (pass _ _ _ (only_full right) (pass _ _ _ (not_from_true _ takes) (has_only g y z right has)))))

pub grant_accepted : (g : ProtectionGraph) (x y z : Name) (right : Right) → IsTrue (has_vertex g x) → IsTrue (has_vertex g y) → IsTrue (has_vertex g z) → IsTrue (g.holds x G y) → IsTrue (g.holds x right z) → refusal_of g (Grant x y z (only right)) ≡ None
unfolding refusal_of
grant_accepted g x y z right hx hy hz grants has =
    know g x _ hx (know g y _ hy (know g z _ hz (pass _ _ _ (only_full right) (pass _ _ _ (not_from_true _ grants) (has_only g x z right has)))))

pub create_accepted : (g : ProtectionGraph) (x n : Name) (s : Rights) → IsTrue (has_vertex g x) → has_vertex g n ≡ false → refusal_of g (Create x n s) ≡ None
unfolding refusal_of
create_accepted g x n s hx new = know g x _ hx (pass _ _ None new refl)
