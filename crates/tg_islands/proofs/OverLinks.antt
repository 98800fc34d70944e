-- A right goes over one link by at most four rules and one new vertex.
use Rattle.std.proofs.Common.{◌≡◌, ℕ, ◌+◌, ◌^◌, ◌<◌, ◌≤◌, Bool, true, false, ◌&&◌, ◌||◌, ◌⊎◌, inl, inr, List, [], ◌∷◌, ◌++◌, length, refl, sym, ap, ◌∙◌, subst, IsTrue, arith, length-append, append_assoc, lit≤, if◌then◌else◌}
use Rattle.std.proofs.lemmas.List.{append-nil}
use Rattle.std.proofs.lemmas.List.Folds.{list_any-append}
use Rattle.std.specs.List.{list_any}
use Rattle.std.proofs.lemmas.Bool.{true≢false, and_from, or_cases, or_left, or_right}
use Rattle.tg_names.specs.declared.right_sets.Right.{Right}
use Rattle.tg_names.specs.declared.right_sets.Right.TheVariants.{T, G}
use Rattle.tg_names.specs.declared.right_sets.Rights.{Rights}
use Rattle.tg_graph.specs.declared.rules.Rule.{Rule}
use Rattle.tg_graph.specs.declared.rules.Rule.TheVariants.{Take, Grant, Create}
use Rattle.tg_names.specs.Names.{IsName, Name, same_name}
use Rattle.tg_names.specs.Sets.{member}
use Rattle.tg_graph.specs.Graphs.{ProtectionGraph, has_vertex}
use Rattle.tg_graph.specs.Rules.{with_edge, after}
use Rattle.tg_graph.specs.RuleLists.{AllAccepted, after_all}
use Rattle.tg_islands.specs.Sharing.{linked}
use Rattle.tg_islands.specs.Moves.{only, take_and_grant, Extends}
use Rattle.tg_islands.proofs.NameTests.{same_refl, any_push}
use Rattle.tg_islands.proofs.Fresh.{fresh}
use Rattle.tg_names.proofs.RightsWords.{one_itself}
use Rattle.tg_islands.proofs.Allowed.{only_named, take_and_grant_named, take_accepted, grant_accepted, create_accepted}

pub both_accepted : (g : ProtectionGraph) (rs qs : List Rule) → AllAccepted g rs → AllAccepted (after_all g rs) qs → AllAccepted g (rs ++ qs)
both_accepted g [] qs a b = b
both_accepted g (r ∷ rs) qs a b = (a.0, a.1, both_accepted (after g r) rs qs a.2 b)

pub after_both : (g : ProtectionGraph) (rs qs : List Rule) → after_all g (rs ++ qs) ≡ after_all (after_all g rs) qs
after_both g [] qs = refl
after_both g (r ∷ rs) qs = after_both (after g r) rs qs

-- nothing is lost
pub record Keeps (g h : ProtectionGraph) : Type 0 where
  pub vertices : (v : Name) → IsTrue (has_vertex g v) → IsTrue (has_vertex h v)
  pub triples : (u : Name) (right : Right) (v : Name) → IsTrue (g.holds u right v) → IsTrue (h.holds u right v)

-- accepted rules lead from g to h, at most so many, with at most so many new vertices
pub record Derives (g h : ProtectionGraph) (most created : ℕ) : Type 0 where
  pub rules : List Rule
  pub accepted : AllAccepted g rules
  pub ends : after_all g rules ≡ h
  pub few : length rules ≤ most
  pub room : length h.vertices ≤ length g.vertices + created
  pub keeps : Keeps g h

pub stay : (g : ProtectionGraph) → Derives g g 0 0
stay g = record { rules = []; accepted = tt; ends = refl; few = omega arith; room = omega arith; keeps = record { vertices = λ v h. h; triples = λ u right v h. h } }

pub derives_then : (g h k : ProtectionGraph) (m n c d : ℕ) → Derives g h m c → Derives h k n d → Derives g k (m + n) (c + d)
derives_then g h k m n c d a b = record {
  rules = a.rules ++ b.rules;
  accepted = both_accepted g a.rules b.rules a.accepted (subst (λ t. AllAccepted t b.rules) (sym a.ends) b.accepted);
  ends = after_both g a.rules b.rules ∙ (ap (λ t. after_all t b.rules) a.ends ∙ b.ends);
  few = omega (arith, length-append a.rules b.rules, a.few, b.few);
  room = omega (arith, a.room, b.room);
  keeps = record { vertices = λ v h. b.keeps.vertices v (a.keeps.vertices v h); triples = λ u right v h. b.keeps.triples u right v (a.keeps.triples u right v h) };
}

pub at_most : (g h : ProtectionGraph) (m n c d : ℕ) → m ≤ n → c ≤ d → Derives g h m c → Derives g h n d
at_most g h m n c d l k a = record { rules = a.rules; accepted = a.accepted; ends = a.ends; few = omega (arith, a.few); room = omega (arith, a.room); keeps = a.keeps }

-- a vertex with a name as it should be
pub record Known (g : ProtectionGraph) (v : Name) : Type 0 where
  pub there : IsTrue (has_vertex g v)
  pub is_name : IsName v

pub stays : (g h : ProtectionGraph) (v : Name) → Keeps g h → Known g v → Known h v
stays g h v k a = record { there = k.vertices v a.there; is_name = a.is_name }

-- what was there before is still there
pub keeps : (g : ProtectionGraph) (rules : List Rule) (made : List Name) → Extends g rules made → Keeps g (after_all g rules)
keeps g rules made e = record {
  vertices = λ v h. ap (list_any (same_name v)) e.vertices ∙ list_any-append (same_name v) g.vertices made ∙ or_left (has_vertex g v) _ h;
  triples = e.triples;
}

pub extends_then : (g : ProtectionGraph) (rs qs : List Rule) (made more : List Name) → Extends g rs made → Extends (after_all g rs) qs more → Extends g (rs ++ qs) (made ++ more)
extends_then g rs qs made more a b = record {
  accepted = both_accepted g rs qs a.accepted b.accepted;
  vertices = ap (λ (t : ProtectionGraph). t.vertices) (after_both g rs qs) ∙ b.vertices ∙ ap (λ vs. vs ++ more) a.vertices ∙ append_assoc g.vertices made more;
  triples = λ u right v h. subst (λ t. IsTrue (t.holds u right v)) (sym (after_both g rs qs)) (b.triples u right v (a.triples u right v h));
}

new_edge : (holds : Name → Right → Name → Bool) (x z : Name) (s : Rights) (right : Right) → member s right ≡ true → IsTrue (with_edge holds x z s x right z)
new_edge holds x z s right m = or_right (holds x right z) _ (and_from (same_name x x && same_name z z) (member s right) (and_from (same_name x x) (same_name z z) (same_refl x) (same_refl z)) m)

take_step : (g : ProtectionGraph) (x y z : Name) (right : Right) → Known g x → Known g y → Known g z → IsTrue (g.holds x T y) → IsTrue (g.holds y right z) → Extends g (Take x y z (only right) ∷ []) []
unfolding after
take_step g x y z right kx ky kz takes has = record {
  accepted = ((kx.is_name, ky.is_name, kz.is_name, only_named right), take_accepted g x y z right kx.there ky.there kz.there takes has, tt);
  vertices = sym (append-nil g.vertices);
  triples = λ u right v h. or_left (g.holds u right v) _ h;
}

grant_step : (g : ProtectionGraph) (x y z : Name) (right : Right) → Known g x → Known g y → Known g z → IsTrue (g.holds x G y) → IsTrue (g.holds x right z) → Extends g (Grant x y z (only right) ∷ []) []
unfolding after
grant_step g x y z right kx ky kz grants has = record {
  accepted = ((kx.is_name, ky.is_name, kz.is_name, only_named right), grant_accepted g x y z right kx.there ky.there kz.there grants has, tt);
  vertices = sym (append-nil g.vertices);
  triples = λ u right v h. or_left (g.holds u right v) _ h;
}

create_step : (g : ProtectionGraph) (x n : Name) → Known g x → IsName n → has_vertex g n ≡ false → Extends g (Create x n take_and_grant ∷ []) (n ∷ [])
unfolding after
create_step g x n kx name new = record {
  accepted = ((kx.is_name, name, take_and_grant_named), create_accepted g x n take_and_grant kx.there new, tt);
  vertices = refl;
  triples = λ u right v h. or_left (g.holds u right v) _ h;
}

-- the rules make these vertices, and p has the right over y after them
abbrev pub Gives : ProtectionGraph → List Rule → List Name → Name → Right → Name → Type 0
Gives g rules made p right y = Extends g rules made × IsTrue ((after_all g rules).holds p right y)

-- through n, over which p has take and q has grant
by_helper : (g : ProtectionGraph) (p q n y : Name) (right : Right) → Known g p → Known g q → Known g n → Known g y → IsTrue (g.holds p T n) → IsTrue (g.holds q G n) → IsTrue (g.holds q right y)
    → Gives g (Grant q n y (only right) ∷ Take p n y (only right) ∷ []) [] p right y
unfolding after
by_helper g p q n y right kp kq kn ky takes grants has =
    let h = after g (Grant q n y (only right)) in
    let a = grant_step g q n y right kq kn ky grants has in
    let k = keeps g (Grant q n y (only right) ∷ []) [] a in
    let b = take_step h p n y right (stays g h p k kp) (stays g h n k kn) (stays g h y k ky) (a.triples p T n takes) (new_edge g.holds n y (only right) right (one_itself right)) in
    (extends_then g (Grant q n y (only right) ∷ []) (Take p n y (only right) ∷ []) [] [] a b, new_edge h.holds p y (only right) right (one_itself right))

module _ (g : ProtectionGraph) (p q y : Name) (right : Right) (kp : Known g p) (kq : Known g q) (ky : Known g y) (has : IsTrue (g.holds q right y)) where
  pub move_take : IsTrue (g.holds p T q) → Gives g (Take p q y (only right) ∷ []) [] p right y
  unfolding after
  move_take takes = (take_step g p q y right kp kq ky takes has, new_edge g.holds p y (only right) right (one_itself right))

  pub move_granted : IsTrue (g.holds q G p) → Gives g (Grant q p y (only right) ∷ []) [] p right y
  unfolding after
  move_granted grants = (grant_step g q p y right kq kp ky grants has, new_edge g.holds p y (only right) right (one_itself right))

  module _ (n : Name) (name : IsName n) (new : has_vertex g n ≡ false) where
    abbrev created : ProtectionGraph
    created = after g (Create p n take_and_grant)

    create_p : Extends g (Create p n take_and_grant ∷ []) (n ∷ [])
    create_p = create_step g p n kp name new

    kept : Keeps g created
    kept = keeps g (Create p n take_and_grant ∷ []) (n ∷ []) create_p

    created_known : Known created n
    unfolding after
    created_known = record { there = any_push (same_name n) g.vertices n ∙ or_right (has_vertex g n) (same_name n n) (same_refl n); is_name = name }

    creator_has : (right : Right) → member take_and_grant right ≡ true → IsTrue (created.holds p right n)
    unfolding after
    creator_has right m = new_edge g.holds p n take_and_grant right m

    -- the rule has given q grant over n
    finish : (rule : Rule) → Extends created (rule ∷ []) [] → IsTrue ((after created rule).holds q G n) → Gives g (Create p n take_and_grant ∷ rule ∷ Grant q n y (only right) ∷ Take p n y (only right) ∷ []) (n ∷ []) p right y
    finish rule a grants =
        let h = after created rule in
        let k = keeps created (rule ∷ []) [] a in
        let b = extends_then g (Create p n take_and_grant ∷ []) (rule ∷ []) (n ∷ []) [] create_p a in
        let r = by_helper h p q n y right (stays created h p k (stays g created p kept kp)) (stays created h q k (stays g created q kept kq)) (stays created h n k created_known) (stays created h y k (stays g created y kept ky)) (a.triples p T n (creator_has T refl)) grants (b.triples q right y has) in
        (extends_then g (Create p n take_and_grant ∷ rule ∷ []) (Grant q n y (only right) ∷ Take p n y (only right) ∷ []) (n ∷ []) [] b r.0, r.1)

    pub move_helped : (b : Bool) → (b ≡ true → IsTrue (g.holds p G q)) → (b ≡ false → IsTrue (g.holds q T p)) → Gives g (Create p n take_and_grant ∷ (if b then Grant p q n (only G) else Take q p n (only G)) ∷ Grant q n y (only right) ∷ Take p n y (only right) ∷ []) (n ∷ []) p right y
    unfolding after
    move_helped true grants takes =
        finish (Grant p q n (only G)) (grant_step created p q n G (stays g created p kept kp) (stays g created q kept kq) created_known (kept.triples p G q (grants refl)) (creator_has G refl)) (new_edge created.holds q n (only G) G refl)
    move_helped false grants takes =
        finish (Take q p n (only G)) (take_step created q p n G (stays g created q kept kq) (stays g created p kept kp) created_known (kept.triples q T p (takes refl)) (creator_has G refl)) (new_edge created.holds q n (only G) G refl)

-- p gets the right that q has over y, in so many rules
abbrev pub Moved : ProtectionGraph → Name → Name → Right → ℕ → ℕ → Type 0
Moved g p y right m c = (h : ProtectionGraph) × Derives g h m c × IsTrue (h.holds p right y)

moved : (g : ProtectionGraph) (rules : List Rule) (made : List Name) (p y : Name) (right : Right) → length rules ≤ 4 → length made ≤ 1 → Gives g rules made p right y → Moved g p y right 4 1
moved g rules made p y right few room gives =
    (after_all g rules, record { rules = rules; accepted = gives.0.accepted; ends = refl; few = few; room = omega (arith, ap length gives.0.vertices, length-append g.vertices made, room); keeps = keeps g rules made gives.0 }, gives.1)

-- what a link is
pub data Link (g : ProtectionGraph) (p q : Name) : Type 0 where
  takes : IsTrue (g.holds p T q) → Link g p q
  granted : IsTrue (g.holds q G p) → Link g p q
  grants : IsTrue (g.holds p G q) → Link g p q
  taken : IsTrue (g.holds q T p) → Link g p q

pub link_of : (g : ProtectionGraph) (p q : Name) → IsTrue (linked g p q) → Link g p q
link_of g p q h = go (or_cases (g.holds p T q || g.holds p G q || g.holds q T p) (g.holds q G p) h)
  where
    go2 : (IsTrue (g.holds p T q)) ⊎ (IsTrue (g.holds p G q)) → Link g p q
    go2 (inl e) = takes e
    go2 (inr e) = grants e

    go1 : (IsTrue (g.holds p T q || g.holds p G q)) ⊎ (IsTrue (g.holds q T p)) → Link g p q
    go1 (inl e) = go2 (or_cases (g.holds p T q) (g.holds p G q) e)
    go1 (inr e) = taken e

    go : (IsTrue (g.holds p T q || g.holds p G q || g.holds q T p)) ⊎ (IsTrue (g.holds q G p)) → Link g p q
    go (inl e) = go1 (or_cases (g.holds p T q || g.holds p G q) (g.holds q T p) e)
    go (inr e) = granted e

pub link_kept : (g h : ProtectionGraph) (p q : Name) → Keeps g h → Link g p q → Link h p q
link_kept g h p q k (takes e) = takes (k.triples p T q e)
link_kept g h p q k (granted e) = granted (k.triples q G p e)
link_kept g h p q k (grants e) = grants (k.triples p G q e)
link_kept g h p q k (taken e) = taken (k.triples q T p e)

-- over one link
pub move : (g : ProtectionGraph) (p q y : Name) (right : Right) → Known g p → Known g q → Known g y → IsTrue (g.holds q right y) → length g.vertices < 2 ^ 70 → Link g p q → Moved g p y right 4 1
move g p q y right kp kq ky has room (takes e) = moved g _ _ p y right (lit≤ tt) (lit≤ tt) (move_take g p q y right kp kq ky has e)
move g p q y right kp kq ky has room (granted e) = moved g _ _ p y right (lit≤ tt) (lit≤ tt) (move_granted g p q y right kp kq ky has e)
move g p q y right kp kq ky has room (grants e) =
    let n = fresh g.vertices room in
    moved g _ _ p y right (lit≤ tt) (lit≤ tt) (move_helped g p q y right kp kq ky has n.0 n.1 n.2 true (λ _. e) (λ f. absurd (true≢false f)))
move g p q y right kp kq ky has room (taken e) =
    let n = fresh g.vertices room in
    moved g _ _ p y right (lit≤ tt) (lit≤ tt) (move_helped g p q y right kp kq ky has n.0 n.1 n.2 false (λ f. absurd (true≢false (sym f))) (λ _. e))

pub linked_kept : (g h : ProtectionGraph) (p q : Name) → Keeps g h → IsTrue (linked g p q) → IsTrue (linked h p q)
linked_kept g h p q k l = go (link_kept g h p q k (link_of g p q l))
  where
    go : Link h p q → IsTrue (linked h p q)
    go (takes e) = or_left _ (h.holds q G p) (or_left _ (h.holds q T p) (or_left _ (h.holds p G q) e))
    go (grants e) = or_left _ (h.holds q G p) (or_left _ (h.holds q T p) (or_right (h.holds p T q) _ e))
    go (taken e) = or_left _ (h.holds q G p) (or_right (h.holds p T q || h.holds p G q) _ e)
    go (granted e) = or_right (h.holds p T q || h.holds p G q || h.holds q T p) _ e
