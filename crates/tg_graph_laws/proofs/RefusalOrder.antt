-- The refusal that is given is the first that applies.
use Rattle.std.proofs.Common.{◌≡◌, ℕ, ◌<◌, ◌≤◌, Bool, true, false, ◌&&◌, not, List, [], ◌∷◌, ◌++◌, Option, None, Some, refl, sym, ap, subst, ◌∙◌, arith, true≢false, if◌then◌else◌}
use Rattle.std.specs.Bool.{IsTrue}
use Rattle.std.specs.List.{AllByRecursion}
use Rattle.std.proofs.lemmas.Bool.Decides.{Decides-eqb}
use Rattle.std.proofs.lemmas.List.Elements.{All-nil, All-from_recursion, recursion_from_All}
use Rattle.tg_names.specs.declared.right_sets.Right.{Right}
use Rattle.tg_names.specs.declared.right_sets.Right.TheVariants.{T, G}
use Rattle.tg_names.specs.declared.right_sets.Rights.{Rights}
use Rattle.tg_graph.specs.declared.rules.Rule.{Rule}
use Rattle.tg_graph.specs.declared.rules.Rule.TheVariants.{Take, Grant, Create, Remove}
use Rattle.tg_graph.specs.declared.rules.Refusal.{Refusal}
use Rattle.tg_graph.specs.declared.rules.Refusal.TheVariants.{Unknown, Taken, Empty, NoTake, NoGrant, NotHeld, Full}
use Rattle.tg_names.specs.Sets.{member, IsNamed, nothing, is_empty_set}
use Rattle.tg_names.specs.Names.{Name}
use Rattle.tg_graph.specs.Graphs.{ProtectionGraph, has_vertex}
use Rattle.tg_graph.specs.Rules.{refusal_of, missing, rights_of}
use Rattle.tg_graph_laws.specs.RefusalOrder.{vertices_of, IsFirstUnknown, HasNone, IsLacking, RefusalHolds, refusal_number, IsLeastRefusal}
use Rattle.tg_graph_laws.specs.Laws.{LeastRefusal, AcceptedWhereNone, NeverFull}
use Rattle.tg_names.proofs.Sets.{member-nothing, member-where, named-where, same_set}

not_true : (b : Bool) → b ≡ false → ¬ IsTrue b
not_true b e h = true≢false (sym h ∙ e)

-- sets without rights

none_if_empty : (s : Rights) → is_empty_set s ≡ true → HasNone s
none_if_empty s e right m = not_true (member s right) (ap (λ n. member (record { 0 = n }) right) ((Decides-eqb s.0 0).0 e) ∙ member-nothing right) m

false_from : (b : Bool) → ¬ IsTrue b → b ≡ false
false_from true h = absurd (h refl)
false_from false h = refl

empty_if_none : (s : Rights) → IsNamed s → HasNone s → is_empty_set s ≡ true
empty_if_none s n h =
    (Decides-eqb s.0 0).1 (ap (λ (s : Rights). s.0) (same_set s nothing (λ right. false_from (member s right) (h right) ∙ sym (member-nothing right)) n (omega arith)))

some_if_not_empty : (s : Rights) → IsNamed s → is_empty_set s ≡ false → ¬ HasNone s
some_if_not_empty s n e h = true≢false (sym (empty_if_none s n h) ∙ e)

-- what is missing is the one set that is lacking

lacks_missing : (g : ProtectionGraph) (u v : Name) (s : Rights) → is_empty_set (missing g u v s) ≡ false → IsLacking g u v s (missing g u v s)
lacks_missing g u v s e =
    let test : Right → Bool = λ right. member s right && not (g.holds u right v) in
    record { named = named-where test; members = member-where test; some = some_if_not_empty (missing g u v s) (named-where test) e }

lacks_nothing_else : (g : ProtectionGraph) (u v : Name) (s one other : Rights) → IsLacking g u v s one → IsLacking g u v s other → one ≡ other
lacks_nothing_else g u v s one other a b = same_set one other (λ right. a.members right ∙ sym (b.members right)) a.named b.named

lacks_none : (g : ProtectionGraph) (u v : Name) (s lacking : Rights) → is_empty_set (missing g u v s) ≡ true → ¬ IsLacking g u v s lacking
lacks_none g u v s lacking e a =
    let test : Right → Bool = λ right. member s right && not (g.holds u right v) in
    a.some (λ right m. none_if_empty (missing g u v s) e right (member-where test right ∙ sym (a.members right) ∙ m))

-- the first name that is no vertex

abbrev IsKnown : ProtectionGraph → Name → Type 0
IsKnown g u = IsTrue (has_vertex g u)

at_start : (g : ProtectionGraph) (v : Name) (rest : List Name) → has_vertex g v ≡ false → IsFirstUnknown g (v ∷ rest) v
at_start g v rest e = record { front = []; rest = rest; split = refl; known = All-nil (IsKnown g); unknown = not_true (has_vertex g v) e }

further : (g : ProtectionGraph) (u : Name) (names : List Name) (v : Name) → IsKnown g u → IsFirstUnknown g names v → IsFirstUnknown g (u ∷ names) v
further g u names v k f =
    record { front = u ∷ f.front; rest = f.rest; split = ap (λ names. u ∷ names) f.split; known = All-from_recursion (IsKnown g) (u ∷ f.front) (k, recursion_from_All (IsKnown g) f.front f.known); unknown = f.unknown }

none_unknown : (g : ProtectionGraph) (names : List Name) → AllByRecursion (IsKnown g) names → (v : Name) → ¬ IsFirstUnknown g names v
none_unknown g names k v f = by f.front names f.split k
  where
    by : (front names : List Name) → names ≡ front ++ v ∷ f.rest → AllByRecursion (IsKnown g) names → ⊥
    by [] [] e k = cc
    by [] (u ∷ names) e k = let same : u ≡ v = cc in f.unknown (subst (IsKnown g) same k.0)
    by (u ∷ front) [] e k = cc
    by (u ∷ front) (w ∷ names) e k = let same : names ≡ front ++ v ∷ f.rest = cc in by front names same k.1

one_first : (g : ProtectionGraph) (names : List Name) (v w : Name) → IsFirstUnknown g names v → IsFirstUnknown g names w → v ≡ w
one_first g names v w a b =
    by a.front b.front (sym a.split ∙ b.split) (recursion_from_All (IsKnown g) a.front a.known) (recursion_from_All (IsKnown g) b.front b.known)
  where
    by : (one other : List Name) → one ++ v ∷ a.rest ≡ other ++ w ∷ b.rest → AllByRecursion (IsKnown g) one → AllByRecursion (IsKnown g) other → v ≡ w
    by [] [] e p q = cc
    by [] (u ∷ other) e p q = let same : u ≡ v = cc in absurd (a.unknown (subst (IsKnown g) same q.0))
    by (u ∷ one) [] e p q = let same : u ≡ w = cc in absurd (b.unknown (subst (IsKnown g) same p.0))
    by (u ∷ one) (t ∷ other) e p q = let same : one ++ v ∷ a.rest ≡ other ++ w ∷ b.rest = cc in by one other same p.1 q.1

-- refusals of one number that both apply are equal

one_taken : (g : ProtectionGraph) (rule : Rule) (v w : Name) → RefusalHolds g rule (Taken v) → RefusalHolds g rule (Taken w) → v ≡ w
one_taken g (Take x y z s) v w a b = absurd a
one_taken g (Grant x y z s) v w a b = absurd a
one_taken g (Create x n s) v w a b = a.0 ∙ sym b.0
one_taken g (Remove x y s) v w a b = absurd a

one_lacking : (g : ProtectionGraph) (rule : Rule) (s t : Rights) → RefusalHolds g rule (NotHeld s) → RefusalHolds g rule (NotHeld t) → s ≡ t
one_lacking g (Take x y z r) s t a b = lacks_nothing_else g y z r s t a b
one_lacking g (Grant x y z r) s t a b = lacks_nothing_else g x z r s t a b
one_lacking g (Create x n r) s t a b = absurd a
one_lacking g (Remove x y r) s t a b = absurd a

one_of_a_number : (g : ProtectionGraph) (rule : Rule) (r q : Refusal) → refusal_number r ≡ refusal_number q → RefusalHolds g rule r → RefusalHolds g rule q → r ≡ q
one_of_a_number g rule (Unknown v) (Unknown w) e a b = ap Unknown (one_first g (vertices_of rule) v w a b)
one_of_a_number g rule (Taken v) (Taken w) e a b = ap Taken (one_taken g rule v w a b)
one_of_a_number g rule Empty Empty e a b = refl
one_of_a_number g rule NoTake NoTake e a b = refl
one_of_a_number g rule NoGrant NoGrant e a b = refl
one_of_a_number g rule (NotHeld s) (NotHeld t) e a b = ap NotHeld (one_lacking g rule s t a b)
one_of_a_number g rule Full q e a b = absurd a
one_of_a_number g rule r q e a b = absurd (omega arith)

one_least : (g : ProtectionGraph) (rule : Rule) (r q : Refusal) → IsLeastRefusal g rule r → IsLeastRefusal g rule q → r ≡ q
one_least g rule r q a b = one_of_a_number g rule r q (by (refusal_number r) (refusal_number q) (λ h. b.least r h a.applies) (λ h. a.least q h b.applies)) a.applies b.applies
  where
    by : (m n : ℕ) → (m < n → ⊥) → (n < m → ⊥) → m ≡ n
    by m n p q = omega arith

-- what each rule's tests rule out, where they come before k

take_passed : (g : ProtectionGraph) (x y z : Name) (s : Rights) (k : ℕ) → IsNamed s → (1 < k → AllByRecursion (IsKnown g) (x ∷ y ∷ z ∷ [])) → (3 < k → is_empty_set s ≡ false) → (4 < k → IsTrue (g.holds x T y)) → (6 < k → is_empty_set (missing g y z s) ≡ true) → (other : Refusal) → refusal_number other < k → ¬ RefusalHolds g (Take x y z s) other
take_passed g x y z s k n a b c d (Unknown v) l h = none_unknown g (x ∷ y ∷ z ∷ []) (a l) v h
take_passed g x y z s k n a b c d (Taken v) l h = h
take_passed g x y z s k n a b c d Empty l h = some_if_not_empty s n (b l) h
take_passed g x y z s k n a b c d NoTake l h = h (c l)
take_passed g x y z s k n a b c d NoGrant l h = h
take_passed g x y z s k n a b c d (NotHeld t) l h = lacks_none g y z s t (d l) h
take_passed g x y z s k n a b c d Full l h = h

grant_passed : (g : ProtectionGraph) (x y z : Name) (s : Rights) (k : ℕ) → IsNamed s → (1 < k → AllByRecursion (IsKnown g) (x ∷ y ∷ z ∷ [])) → (3 < k → is_empty_set s ≡ false) → (5 < k → IsTrue (g.holds x G y)) → (6 < k → is_empty_set (missing g x z s) ≡ true) → (other : Refusal) → refusal_number other < k → ¬ RefusalHolds g (Grant x y z s) other
grant_passed g x y z s k n a b c d (Unknown v) l h = none_unknown g (x ∷ y ∷ z ∷ []) (a l) v h
grant_passed g x y z s k n a b c d (Taken v) l h = h
grant_passed g x y z s k n a b c d Empty l h = some_if_not_empty s n (b l) h
grant_passed g x y z s k n a b c d NoTake l h = h
grant_passed g x y z s k n a b c d NoGrant l h = h (c l)
grant_passed g x y z s k n a b c d (NotHeld t) l h = lacks_none g x z s t (d l) h
grant_passed g x y z s k n a b c d Full l h = h

create_passed : (g : ProtectionGraph) (x m : Name) (s : Rights) (k : ℕ) → (1 < k → AllByRecursion (IsKnown g) (x ∷ [])) → (2 < k → has_vertex g m ≡ false) → (other : Refusal) → refusal_number other < k → ¬ RefusalHolds g (Create x m s) other
create_passed g x m s k a b (Unknown v) l h = none_unknown g (x ∷ []) (a l) v h
create_passed g x m s k a b (Taken v) l h = not_true (has_vertex g m) (b l) h.1
create_passed g x m s k a b Empty l h = h
create_passed g x m s k a b NoTake l h = h
create_passed g x m s k a b NoGrant l h = h
create_passed g x m s k a b (NotHeld t) l h = h
create_passed g x m s k a b Full l h = h

remove_passed : (g : ProtectionGraph) (x y : Name) (s : Rights) (k : ℕ) → IsNamed s → (1 < k → AllByRecursion (IsKnown g) (x ∷ y ∷ [])) → (3 < k → is_empty_set s ≡ false) → (other : Refusal) → refusal_number other < k → ¬ RefusalHolds g (Remove x y s) other
remove_passed g x y s k n a b (Unknown v) l h = none_unknown g (x ∷ y ∷ []) (a l) v h
remove_passed g x y s k n a b (Taken v) l h = h
remove_passed g x y s k n a b Empty l h = some_if_not_empty s n (b l) h
remove_passed g x y s k n a b NoTake l h = h
remove_passed g x y s k n a b NoGrant l h = h
remove_passed g x y s k n a b (NotHeld t) l h = h
remove_passed g x y s k n a b Full l h = h

-- what an answer says of all the refusals
abbrev IsVerdict : ProtectionGraph → Rule → Option Refusal → Type 0
IsVerdict g rule None = (refusal : Refusal) → ¬ RefusalHolds g rule refusal
IsVerdict g rule (Some refusal) = IsLeastRefusal g rule refusal

number_below : (r : Refusal) → refusal_number r < 8
number_below (Unknown v) = omega arith
number_below (Taken v) = omega arith
number_below Empty = omega arith
number_below NoTake = omega arith
number_below NoGrant = omega arith
number_below (NotHeld s) = omega arith
number_below Full = omega arith

module _ (P : Option Refusal → Type 0) where
  -- one test of the chain
  refused_where : (b : Bool) (r : Refusal) (later : Option Refusal) → (b ≡ true → P (Some r)) → (b ≡ false → P later) → P (if b then Some r else later)
  refused_where true r later f h = f refl
  refused_where false r later f h = h refl

  refused_unless : (b : Bool) (r : Refusal) (later : Option Refusal) → (b ≡ false → P (Some r)) → (b ≡ true → P later) → P (if not b then Some r else later)
  refused_unless true r later f h = h refl
  refused_unless false r later f h = f refl

-- this comes later
later : {A : Type 0} (m k : ℕ) → k ≤ m → m < k → A
later m k h l = absurd (omega arith)

remove_verdict : (g : ProtectionGraph) (x y : Name) (s : Rights) → IsNamed s → IsVerdict g (Remove x y s) (refusal_of g (Remove x y s))
unfolding refusal_of
remove_verdict g x y s n =
    let P : Option Refusal → Type 0 = IsVerdict g (Remove x y s) in
    refused_unless P (has_vertex g x) (Unknown x) _
    (λ ux. record { applies = at_start g x (y ∷ []) ux; least = remove_passed g x y s 1 n (later 1 1 (omega arith)) (later 3 1 (omega arith)) })
    (λ kx. refused_unless P (has_vertex g y) (Unknown y) _
    (λ uy. record { applies = further g x (y ∷ []) y kx (at_start g y [] uy); least = remove_passed g x y s 1 n (later 1 1 (omega arith)) (later 3 1 (omega arith)) })
    (λ ky. refused_where P (is_empty_set s) Empty None
    (λ e. record { applies = none_if_empty s e; least = remove_passed g x y s 3 n (λ _. (kx, (ky, tt))) (later 3 3 (omega arith)) })
    (λ e r. remove_passed g x y s 8 n (λ _. (kx, (ky, tt))) (λ _. e) r (number_below r))))

create_verdict : (g : ProtectionGraph) (x m : Name) (s : Rights) → IsVerdict g (Create x m s) (refusal_of g (Create x m s))
unfolding refusal_of
create_verdict g x m s =
    let P : Option Refusal → Type 0 = IsVerdict g (Create x m s) in
    refused_unless P (has_vertex g x) (Unknown x) _
    (λ ux. record { applies = at_start g x [] ux; least = create_passed g x m s 1 (later 1 1 (omega arith)) (later 2 1 (omega arith)) })
    (λ kx. refused_where P (has_vertex g m) (Taken m) None
    (λ t. record { applies = (refl, t); least = create_passed g x m s 2 (λ _. (kx, tt)) (later 2 2 (omega arith)) })
    (λ t r. create_passed g x m s 8 (λ _. (kx, tt)) (λ _. t) r (number_below r)))

module _ (g : ProtectionGraph) (x y z : Name) (s : Rights) (n : IsNamed s) where
  unknown_first : has_vertex g x ≡ false → IsFirstUnknown g (x ∷ y ∷ z ∷ []) x
  unknown_first u = at_start g x (y ∷ z ∷ []) u

  unknown_second : IsKnown g x → has_vertex g y ≡ false → IsFirstUnknown g (x ∷ y ∷ z ∷ []) y
  unknown_second kx u = further g x (y ∷ z ∷ []) y kx (at_start g y (z ∷ []) u)

  unknown_third : IsKnown g x → IsKnown g y → has_vertex g z ≡ false → IsFirstUnknown g (x ∷ y ∷ z ∷ []) z
  unknown_third kx ky u = further g x (y ∷ z ∷ []) z kx (further g y (z ∷ []) z ky (at_start g z [] u))

  take_first : (other : Refusal) → refusal_number other < 1 → ¬ RefusalHolds g (Take x y z s) other
  take_first = take_passed g x y z s 1 n (later 1 1 (omega arith)) (later 3 1 (omega arith)) (later 4 1 (omega arith)) (later 6 1 (omega arith))

  take_verdict : IsVerdict g (Take x y z s) (refusal_of g (Take x y z s))
  unfolding refusal_of
  take_verdict =
      let P : Option Refusal → Type 0 = IsVerdict g (Take x y z s) in
      refused_unless P (has_vertex g x) (Unknown x) _ (λ ux. record { applies = unknown_first ux; least = take_first })
      (λ kx. refused_unless P (has_vertex g y) (Unknown y) _ (λ uy. record { applies = unknown_second kx uy; least = take_first })
      (λ ky. refused_unless P (has_vertex g z) (Unknown z) _ (λ uz. record { applies = unknown_third kx ky uz; least = take_first })
      (λ kz. let known : AllByRecursion (IsKnown g) (x ∷ y ∷ z ∷ []) = (kx, (ky, (kz, tt))) in
      refused_where P (is_empty_set s) Empty _
      (λ e. record { applies = none_if_empty s e; least = take_passed g x y z s 3 n (λ _. known) (later 3 3 (omega arith)) (later 4 3 (omega arith)) (later 6 3 (omega arith)) })
      (λ e. refused_unless P (g.holds x T y) NoTake _
      (λ t. record { applies = not_true (g.holds x T y) t; least = take_passed g x y z s 4 n (λ _. known) (λ _. e) (later 4 4 (omega arith)) (later 6 4 (omega arith)) })
      (λ t. refused_unless P (is_empty_set (missing g y z s)) (NotHeld (missing g y z s)) None
      (λ l. record { applies = lacks_missing g y z s l; least = take_passed g x y z s 6 n (λ _. known) (λ _. e) (λ _. t) (later 6 6 (omega arith)) })
      (λ l r. take_passed g x y z s 8 n (λ _. known) (λ _. e) (λ _. t) (λ _. l) r (number_below r)))))))

  grant_first : (other : Refusal) → refusal_number other < 1 → ¬ RefusalHolds g (Grant x y z s) other
  grant_first = grant_passed g x y z s 1 n (later 1 1 (omega arith)) (later 3 1 (omega arith)) (later 5 1 (omega arith)) (later 6 1 (omega arith))

  grant_verdict : IsVerdict g (Grant x y z s) (refusal_of g (Grant x y z s))
  unfolding refusal_of
  grant_verdict =
      let P : Option Refusal → Type 0 = IsVerdict g (Grant x y z s) in
      refused_unless P (has_vertex g x) (Unknown x) _ (λ ux. record { applies = unknown_first ux; least = grant_first })
      (λ kx. refused_unless P (has_vertex g y) (Unknown y) _ (λ uy. record { applies = unknown_second kx uy; least = grant_first })
      (λ ky. refused_unless P (has_vertex g z) (Unknown z) _ (λ uz. record { applies = unknown_third kx ky uz; least = grant_first })
      (λ kz. let known : AllByRecursion (IsKnown g) (x ∷ y ∷ z ∷ []) = (kx, (ky, (kz, tt))) in
      refused_where P (is_empty_set s) Empty _
      (λ e. record { applies = none_if_empty s e; least = grant_passed g x y z s 3 n (λ _. known) (later 3 3 (omega arith)) (later 5 3 (omega arith)) (later 6 3 (omega arith)) })
      (λ e. refused_unless P (g.holds x G y) NoGrant _
      (λ t. record { applies = not_true (g.holds x G y) t; least = grant_passed g x y z s 5 n (λ _. known) (λ _. e) (later 5 5 (omega arith)) (later 6 5 (omega arith)) })
      (λ t. refused_unless P (is_empty_set (missing g x z s)) (NotHeld (missing g x z s)) None
      (λ l. record { applies = lacks_missing g x z s l; least = grant_passed g x y z s 6 n (λ _. known) (λ _. e) (λ _. t) (later 6 6 (omega arith)) })
      (λ l r. grant_passed g x y z s 8 n (λ _. known) (λ _. e) (λ _. t) (λ _. l) r (number_below r)))))))

verdict_is : (g : ProtectionGraph) (rule : Rule) → IsNamed (rights_of rule) → IsVerdict g rule (refusal_of g rule)
verdict_is g (Take x y z s) n = take_verdict g x y z s n
verdict_is g (Grant x y z s) n = grant_verdict g x y z s n
verdict_is g (Create x m s) n = create_verdict g x m s
verdict_is g (Remove x y s) n = remove_verdict g x y s n

pub least_refusal : LeastRefusal
least_refusal g rule n r = (
  (λ e. subst (IsVerdict g rule) e (verdict_is g rule n)),
  λ l. by (refusal_of g rule) (verdict_is g rule n) l,
)
  where
    by : (o : Option Refusal) → IsVerdict g rule o → IsLeastRefusal g rule r → o ≡ Some r
    by None v l = absurd (v r l.applies)
    by (Some q) v l = ap Some (one_least g rule q r v l)

pub accepted_where_none : AcceptedWhereNone
accepted_where_none g rule n = (
  (λ e. subst (IsVerdict g rule) e (verdict_is g rule n)),
  λ f. by (refusal_of g rule) (verdict_is g rule n) f,
)
  where
    by : (o : Option Refusal) → IsVerdict g rule o → ((refusal : Refusal) → ¬ RefusalHolds g rule refusal) → o ≡ None
    by None v f = refl
    by (Some q) v f = absurd (f q v.applies)

-- no test of the chain answers Full
abbrev IsNotFull : Option Refusal → Type 0
IsNotFull o = o ≡ Some Full → ⊥

tested : (b : Bool) (r : Refusal) (later : Option Refusal) → IsNotFull (Some r) → IsNotFull later → IsNotFull (if b then Some r else later)
tested true r later f h = f
tested false r later f h = h

none_full : IsNotFull None
none_full e = cc

unknown_full : (v : Name) → IsNotFull (Some (Unknown v))
unknown_full v e = cc

taken_full : (v : Name) → IsNotFull (Some (Taken v))
taken_full v e = cc

empty_full : IsNotFull (Some Empty)
empty_full e = cc

no_take_full : IsNotFull (Some NoTake)
no_take_full e = cc

no_grant_full : IsNotFull (Some NoGrant)
no_grant_full e = cc

lacking_full : (s : Rights) → IsNotFull (Some (NotHeld s))
lacking_full s e = cc

pub never_full : NeverFull
unfolding refusal_of
never_full g (Take x y z s) =
    tested (not (has_vertex g x)) _ _ (unknown_full x) (tested (not (has_vertex g y)) _ _ (unknown_full y) (tested (not (has_vertex g z)) _ _ (unknown_full z)
    (tested (is_empty_set s) _ _ empty_full (tested (not (g.holds x T y)) _ _ no_take_full (tested (not (is_empty_set (missing g y z s))) _ _ (lacking_full (missing g y z s)) none_full)))))
never_full g (Grant x y z s) =
    tested (not (has_vertex g x)) _ _ (unknown_full x) (tested (not (has_vertex g y)) _ _ (unknown_full y) (tested (not (has_vertex g z)) _ _ (unknown_full z)
    (tested (is_empty_set s) _ _ empty_full (tested (not (g.holds x G y)) _ _ no_grant_full (tested (not (is_empty_set (missing g x z s))) _ _ (lacking_full (missing g x z s)) none_full)))))
never_full g (Create x n s) = tested (not (has_vertex g x)) _ _ (unknown_full x) (tested (has_vertex g n) _ _ (taken_full n) none_full)
never_full g (Remove x y s) =
    tested (not (has_vertex g x)) _ _ (unknown_full x) (tested (not (has_vertex g y)) _ _ (unknown_full y) (tested (is_empty_set s) _ _ empty_full none_full))
