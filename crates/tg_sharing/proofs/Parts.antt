-- The parts of a list of rules, one for each right of a set.
use Rattle.std.proofs.Common.{◌≡◌, ℕ, ◌+◌, ◌*◌, ◌-◌, ◌<◌, ◌≤◌, Bool, true, false, not, cond, List, [], ◌∷◌, ◌++◌, length, take, get_or, refl, sym, ap, ◌∙◌, subst, IsTrue, arith, append_assoc, length-append}
use Rattle.std.proofs.lemmas.Bool.{both_ways}
use Rattle.std.proofs.lemmas.List.{append-nil, take_more, take_all}
use Rattle.std.proofs.lemmas.List.Elements.{filter-append}
use Rattle.std.proofs.lemmas.List.Filters.{length-filter_both}
use Rattle.std.proofs.Math.Nat.{mul-suc, mul-le-mul_left}
use Rattle.std.specs.List.{AllByRecursion, filter}
use Rattle.tg_names.specs.declared.right_sets.Right.{Right}
use Rattle.tg_names.specs.declared.right_sets.Right.TheVariants.{T, G, R, W, E, A, D}
use Rattle.tg_names.specs.declared.right_sets.Rights.{Rights}
use Rattle.tg_graph.specs.declared.rules.Rule.{Rule}
use Rattle.tg_names.specs.Sets.{member}
use Rattle.tg_names.specs.Letters.{all_rights}
use Rattle.tg_names.specs.Names.{Name}
use Rattle.tg_graph.specs.Graphs.{ProtectionGraph}
use Rattle.tg_graph.specs.RuleLists.{CanShare, CanShareAll, after_all}
use Rattle.tg_islands.specs.Moves.{only}
use Rattle.tg_sharing.specs.Derivations.{IsSoFar, IsPart, IsDerivation}
use Rattle.tg_sharing.specs.SetDerivations.{rights_in, AreParts, IsDerivationOfAll, AddsPart, HasParts, OneRightAlone, DerivationsOfAllAreShort}
use Rattle.tg_names.proofs.RightsWords.{one_itself}
use Rattle.tg_islands.proofs.OverLinks.{after_both}
use Rattle.tg_sharing.proofs.Derived.{part_short}

-- one part more at the end
parts_push : (g now : ProtectionGraph) (x y : Name) (rights : List Right) (right : Right) (rules part : List Rule) → AreParts g now x y rights rules → IsPart g (after_all now rules) right x y part → AreParts g now x y (rights ++ right ∷ []) (rules ++ part)
parts_push g now x y [] right rules part are is =
    (part, [], subst (λ rs. IsPart g (after_all now rs) right x y part) are is, refl, ap (λ rs. rs ++ part) are ∙ sym (append-nil part))
parts_push g now x y (r ∷ rs) right rules part are is =
    (are.0, are.1 ++ part, are.2, parts_push g (after_all now are.0) x y rs right are.1 part are.3 (subst (λ t. IsPart g t right x y part) (ap (after_all now) are.4 ∙ after_both now are.0 are.1) is), ap (λ t. t ++ part) are.4 ∙ append_assoc are.0 are.1 part)

module _ (P : Right → Type 0) where
  all_push : (rights : List Right) (right : Right) → AllByRecursion P rights → P right → AllByRecursion P (rights ++ right ∷ [])
  all_push [] right all here = (here, tt)
  all_push (r ∷ rs) right all here = (all.0, all_push rs right all.1 here)

  all_then : (Q : Right → Type 0) → ((right : Right) → P right → Q right) → (rights : List Right) → AllByRecursion P rights → AllByRecursion Q rights
  all_then Q step [] all = tt
  all_then Q step (r ∷ rs) all = (step r all.0, all_then Q step rs all.1)

  all_at : AllByRecursion P all_rights → (right : Right) → P right
  all_at all T = all.0
  all_at all G = all.1.0
  all_at all R = all.1.1.0
  all_at all W = all.1.1.1.0
  all_at all E = all.1.1.1.1.0
  all_at all A = all.1.1.1.1.1.0
  all_at all D = all.1.1.1.1.1.1.0

filter_push : (s : Rights) (rights : List Right) (right : Right) → filter (member s) (rights ++ right ∷ []) ≡ filter (member s) rights ++ cond (member s right) (right ∷ []) []
filter_push s rights right = filter-append (member s) rights (right ∷ [])

-- ---- right by right
module _ (g : ProtectionGraph) (s : Rights) (x y : Name) where
  abbrev gives : List Rule → Right → Type 0
  gives rules right = IsTrue (member s right) → IsTrue ((after_all g rules).holds x right y)

  pub parts_none : (rules : List Rule) → rules ≡ [] → IsSoFar g rules 0 → HasParts g s x y [] rules 0
  parts_none rules none so_far = record { so_far = so_far; gives = tt; parts = none; low = omega arith }

  -- a right that is not in the set
  parts_same : (rights : List Right) (right : Right) (rules : List Rule) (next : ℕ) → member s right ≡ false → HasParts g s x y rights rules next → HasParts g s x y (rights ++ right ∷ []) rules next
  parts_same rights right rules next out h = record {
    so_far = h.so_far;
    gives = all_push (gives rules) rights right h.gives (λ in_set. absurd (both_ways (member s right) out in_set));
    parts = subst (λ rs. AreParts g g x y rs rules) (sym same) h.parts;
    low = omega (arith, h.low, length-append rights (right ∷ []));
  }
    where
      same : filter (member s) (rights ++ right ∷ []) ≡ filter (member s) rights
      same = filter_push s rights right ∙ ap (λ b. filter (member s) rights ++ cond b (right ∷ []) []) out ∙ append-nil (filter (member s) rights)

  -- a right of the set
  parts_more : (rights : List Right) (right : Right) (old new : List Rule) (next last : ℕ) → member s right ≡ true → HasParts g s x y rights old next → AddsPart g right x y old new next last → HasParts g s x y (rights ++ right ∷ []) new last
  parts_more rights right old new next last within h adds = record {
    so_far = adds.underway.so_far;
    gives = all_push (gives new) rights right (all_then (gives old) (gives new) (λ other had in_set. adds.kept x other y (had in_set)) rights h.gives) (λ in_set. adds.underway.gives);
    parts = subst (λ rs. AreParts g g x y rs new) (sym more) (subst (λ all. AreParts g g x y (filter (member s) rights ++ right ∷ []) all) (sym adds.is) (parts_push g g x y (filter (member s) rights) right old adds.part h.parts adds.is_part));
    low = omega (arith, h.low, adds.low, length-append rights (right ∷ []));
  }
    where
      more : filter (member s) (rights ++ right ∷ []) ≡ filter (member s) rights ++ right ∷ []
      more = filter_push s rights right ∙ ap (λ b. filter (member s) rights ++ cond b (right ∷ []) []) within

  pub parts_skip : (all : List Right) (i : ℕ) (d : Right) (rules : List Rule) (next : ℕ) → i < length all → member s (get_or all i d) ≡ false → HasParts g s x y (take i all) rules next → HasParts g s x y (take (i + 1) all) rules next
  parts_skip all i d rules next lt out h = subst (λ rs. HasParts g s x y rs rules next) (sym (take_more all i d lt)) (parts_same (take i all) (get_or all i d) rules next out h)

  pub parts_next : (all : List Right) (i : ℕ) (d : Right) (old new : List Rule) (next last : ℕ) → i < length all → member s (get_or all i d) ≡ true → HasParts g s x y (take i all) old next → AddsPart g (get_or all i d) x y old new next last → HasParts g s x y (take (i + 1) all) new last
  parts_next all i d old new next last lt within h adds = subst (λ rs. HasParts g s x y rs new last) (sym (take_more all i d lt)) (parts_more (take i all) (get_or all i d) old new next last within h adds)

  pub parts_whole : (i : ℕ) (rules : List Rule) (next : ℕ) → 7 ≤ i → HasParts g s x y (take i all_rights) rules next → IsDerivationOfAll g s x y rules
  parts_whole i rules next le h =
      let whole = subst (λ rs. HasParts g s x y rs rules next) (take_all i all_rights le) h in
      record { accepted = whole.so_far.extends.accepted; gives = all_at (gives rules) whole.gives; parts = whole.parts }

-- ---- of one right
only_rights : (right : Right) → rights_in (only right) ≡ right ∷ []
only_rights T = refl
only_rights G = refl
only_rights R = refl
only_rights W = refl
only_rights E = refl
only_rights A = refl
only_rights D = refl

-- what holds of each element that passes
filtered : (P : Right → Type 0) (test : Right → Bool) (rights : List Right) → AllByRecursion P (filter test rights) → AllByRecursion (λ right. IsTrue (test right) → P right) rights
filtered P test [] all = tt
filtered P test (r ∷ rs) all = go (test r) refl all (filtered P test rs)
  where
    go : (b : Bool) → test r ≡ b → AllByRecursion P (cond b (r ∷ filter test rs) (filter test rs)) → (AllByRecursion P (filter test rs) → AllByRecursion (λ right. IsTrue (test right) → P right) rs) → AllByRecursion (λ right. IsTrue (test right) → P right) (r ∷ rs)
    go true e all ih = (λ _. all.0, ih all.1)
    go false e all ih = (λ h. absurd (both_ways (test r) e h), ih all)

-- the one right of the set
only_is : (P : Right → Type 0) (right : Right) → P right → (other : Right) → IsTrue (member (only right) other) → P other
only_is P right here =
    all_at (λ other. IsTrue (member (only right) other) → P other) (filtered P (member (only right)) all_rights (subst (λ rs. AllByRecursion P rs) (sym (only_rights right)) (here, tt)))

pub one_right_alone : OneRightAlone
one_right_alone g right x y rules = (
  alone,
  λ d. record {
    accepted = d.accepted;
    gives = only_is (λ other. IsTrue ((after_all g rules).holds x other y)) right d.gives;
    parts = subst (λ rs. AreParts g g x y rs rules) (sym (only_rights right)) (rules, [], d.part, refl, sym (append-nil rules));
  },
)
  where
    alone : IsDerivationOfAll g (only right) x y rules → IsDerivation g right x y rules
    alone d =
        let parts = subst (λ rs. AreParts g g x y rs rules) (only_rights right) d.parts in
        let is : rules ≡ parts.0 = parts.4 ∙ ap (λ rs. parts.0 ++ rs) parts.3 ∙ append-nil parts.0 in
        record { accepted = d.accepted; gives = d.gives right (one_itself right); part = subst (λ rs. IsPart g g right x y rs) (sym is) parts.2 }

-- where a right can't be shared alone, no set with it can be
pub not_all : (g : ProtectionGraph) (s : Rights) (right : Right) (x y : Name) → member s right ≡ true → (CanShare g right x y → ⊥) → CanShareAll g s x y → ⊥
not_all g s right x y within none can = none (can.0, can.1, can.2 right within)

-- ---- how many rules
parts_short : (g now : ProtectionGraph) (x y : Name) (rights : List Right) (rules : List Rule) → AreParts g now x y rights rules → length rules ≤ 4 * (length g.vertices - 1) * length rights
parts_short g now x y [] rules are = omega (arith, ap length are)
parts_short g now x y (r ∷ rs) rules are =
    let most : ℕ = 4 * (length g.vertices - 1) in
    let here : length are.0 ≤ most = part_short g now r x y are.0 are.2 in
    let later : length are.1 ≤ most * length rs = parts_short g (after_all now are.0) x y rs are.1 are.3 in
    rw (mul-suc most (length rs)) (omega (arith, ap length are.4, length-append are.0 are.1))

pub derivations_of_all_are_short : DerivationsOfAllAreShort
derivations_of_all_are_short g s x y rules d = (few, omega (arith, few, mul-le-mul_left (4 * (length g.vertices - 1)) seven))
  where
    few : length rules ≤ 4 * (length g.vertices - 1) * length (rights_in s)
    few = parts_short g g x y (rights_in s) rules d.parts

    seven : length (rights_in s) ≤ 7
    seven = omega (arith, length-filter_both (member s) (λ right. not (member s right)) (λ right. refl) all_rights)
