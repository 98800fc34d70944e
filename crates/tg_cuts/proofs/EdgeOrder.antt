-- Edges in the order of source, then target: no edge stands twice.
use Rattle.std.proofs.Common.{◌≡◌, ℕ, zero, suc, inl, inr, true≢false, List, [], ◌∷◌, ◌++◌, Some, slice_get, refl, sym, ap, ◌∙◌, subst}
use Rattle.std.specs.List.{AllByRecursion}
use Rattle.std.specs.Ordering.{nat_cmp, is_eq, ordering_reverse}
use Rattle.std.specs.Cmp.Lexicographic.{slice_cmp, nat_list_cmp_total, texts_ties}
use Rattle.std.specs.declared.cmp.Ordering.TheVariants.{Greater}
use Rattle.std.proofs.lemmas.Option.{none-some, same_Some}
use Rattle.tg_names.specs.declared.right_sets.Rights.{Rights}
use Rattle.tg_graph.specs.declared.rules.Rule.{Rule}
use Rattle.tg_graph.specs.declared.rules.Rule.TheVariants.{Take, Grant, Create, Remove}
use Rattle.tg_names.specs.Names.{Name}
use Rattle.tg_cuts.specs.declared.kept.Ends.{Ends}
use Rattle.tg_cuts.specs.Cuts.{IsBelow, ComesFirst, AreInOrder, edges_of}
use Rattle.tg_islands.proofs.NameTests.{same_refl}

-- ---- what holds of each item
pub all-map : {A : Type 0} (P Q : A → Type 0) → ((a : A) → P a → Q a) → (xs : List A) → AllByRecursion P xs → AllByRecursion Q xs
all-map P Q step [] all = tt
all-map P Q step (x ∷ xs) all = (step x all.0, all-map P Q step xs all.1)

pub all-append : {A : Type 0} (P : A → Type 0) (xs ys : List A) → AllByRecursion P xs → AllByRecursion P ys → AllByRecursion P (xs ++ ys)
all-append P [] ys front back = back
all-append P (x ∷ xs) ys front back = (front.0, all-append P xs ys front.1 back)

pub all-at : {A : Type 0} (P : A → Type 0) (xs : List A) → AllByRecursion P xs → (k : ℕ) (a : A) → slice_get xs k ≡ Some a → P a
all-at P [] all k a at = absurd (none-some a at)
all-at P (x ∷ xs) all zero a at = subst P (same_Some x a at) all.0
all-at P (x ∷ xs) all (suc k) a at = all-at P xs all.1 k a at

-- ---- the order of names
pub below-itself : (v : Name) → IsBelow v v → ⊥
below-itself v h = true≢false (sym (same_refl v) ∙ texts_ties v v ∙ ap is_eq h)

below-both : (v w : Name) → IsBelow v w → IsBelow w v → ⊥
below-both v w h k = let other : slice_cmp nat_cmp v w ≡ Greater = nat_list_cmp_total.antisymm v w ∙ ap ordering_reverse k in cc

-- ---- the order of edges
pub first-itself : (e f : Ends) → ComesFirst e f → e.source ≡ f.source → e.target ≡ f.target → ⊥
first-itself e f (inl h) s t = below-itself f.source (subst (λ (v : Name). IsBelow v f.source) s h)
first-itself e f (inr h) s t = below-itself f.target (subst (λ (v : Name). IsBelow v f.target) t h.1)

pub first-both : (e f : Ends) → ComesFirst e f → ComesFirst f e → ⊥
first-both e f (inl a) (inl b) = below-both e.source f.source a b
first-both e f (inl a) (inr b) = below-itself f.source (subst (λ (v : Name). IsBelow v f.source) (sym b.0) a)
first-both e f (inr a) (inl b) = below-itself e.source (subst (λ (v : Name). IsBelow v e.source) (sym a.0) b)
first-both e f (inr a) (inr b) = below-both e.target f.target a.1 b.1

-- the same edge stands at one place
pub order-one : (xs : List Ends) → AreInOrder xs → (j k : ℕ) (e f : Ends) → slice_get xs j ≡ Some e → slice_get xs k ≡ Some f → e.source ≡ f.source → e.target ≡ f.target → j ≡ k
order-one [] order j k e f p q s t = absurd (none-some e p)
order-one (x ∷ xs) order zero zero e f p q s t = refl
order-one (x ∷ xs) order zero (suc k) e f p q s t = absurd (first-itself e f (subst (λ (d : Ends). ComesFirst d f) (same_Some x e p) (all-at (ComesFirst x) xs order.0 k f q)) s t)
order-one (x ∷ xs) order (suc j) zero e f p q s t = absurd (first-itself f e (subst (λ (d : Ends). ComesFirst d e) (same_Some x f q) (all-at (ComesFirst x) xs order.0 j e p)) (sym s) (sym t))
order-one (x ∷ xs) order (suc j) (suc k) e f p q s t = ap suc (order-one xs order.1 j k e f p q s t)

pub order-append : (xs ys : List Ends) → AreInOrder xs → AreInOrder ys → AllByRecursion (λ (e : Ends). AllByRecursion (ComesFirst e) ys) xs → AreInOrder (xs ++ ys)
order-append [] ys front back between = back
order-append (x ∷ xs) ys front back between = (all-append (ComesFirst x) xs ys front.0 between.0, order-append xs ys front.1 back between.1)

-- ---- the edges of rules
pub edges-append : (rules more : List Rule) → edges_of (rules ++ more) ≡ edges_of rules ++ edges_of more
edges-append [] more = refl
edges-append (Take x y z s ∷ rules) more = edges-append rules more
edges-append (Grant x y z s ∷ rules) more = edges-append rules more
edges-append (Create x n s ∷ rules) more = edges-append rules more
edges-append (Remove u v s ∷ rules) more = ap (λ (es : List Ends). record { source = u; target = v } ∷ es) (edges-append rules more)

-- what holds of the edge of each rule
pub edges-each : (P : Name → Name → Type 0) (rules : List Rule) → AllByRecursion (λ (rule : Rule). (u v : Name) (s : Rights) → rule ≡ Remove u v s → P u v) rules → AllByRecursion (λ (e : Ends). P e.source e.target) (edges_of rules)
edges-each P [] all = tt
edges-each P (Take x y z s ∷ rules) all = edges-each P rules all.1
edges-each P (Grant x y z s ∷ rules) all = edges-each P rules all.1
edges-each P (Create x n s ∷ rules) all = edges-each P rules all.1
edges-each P (Remove u v s ∷ rules) all = (all.0 u v s refl, edges-each P rules all.1)
