-- The first kind whose condition holds, in the order of the kinds, is the least one.
use Rattle.std.proofs.Common.{◌≡◌, refl, sym, ◌∙◌, ap, inl, inr, ◌⊎◌, ℕ, ◌+◌, ◌<◌, ◌≤◌, Bool, true, false, cond, List, [], ◌∷◌, Option, None, Some, Result, Ok, Err, arith}
use Rattle.std.specs.Prelude.{◌↔◌}
use Rattle.std.proofs.lemmas.Bool.{true≢false}
use Rattle.tg_words.specs.declared.faults.TextKind.{TextKind}
use Rattle.tg_words.specs.declared.faults.TextKind.TheVariants.{LineTooLong, BadWord, WordCount, BadNumber, BadName, BadRights, DuplicateVertex, TooManyVertices, UnknownVertex, UnknownGroup, DuplicateEdge, TooMany, NoHeader, NoClaim}
use Rattle.tg_text_laws.specs.FaultKinds.{order_of, IsLeastKind}

-- the kinds that a line's words can have, in order
abbrev pub word_kinds : List TextKind
word_kinds = BadWord ∷ WordCount ∷ BadNumber ∷ BadName ∷ BadRights ∷ DuplicateVertex ∷ TooManyVertices ∷ UnknownVertex ∷ UnknownGroup ∷ DuplicateEdge ∷ TooMany ∷ NoHeader ∷ NoClaim ∷ []

abbrev pub all_kinds : List TextKind
all_kinds = LineTooLong ∷ word_kinds

abbrev pub first_kind : (TextKind → Bool) → List TextKind → Option TextKind
first_kind test [] = None
first_kind test (k ∷ ks) = cond (test k) (Some k) (first_kind test ks)

abbrev pub fault_of : {A : Type 0} → Result A TextKind → Option TextKind
fault_of (Ok x) = None
fault_of (Err kind) = Some kind

pub from_fault : {A : Type 0} (r : Result A TextKind) (kind : TextKind) → fault_of r ≡ Some kind → r ≡ Err kind
from_fault (Ok x) kind e = absurd cc
from_fault (Err k) kind e = let same : k ≡ kind = cc in ap Err same

-- the kinds stand in their order, the first of them with the number n
abbrev Numbered : ℕ → List TextKind → Type 0
Numbered n [] = Unit {0}
Numbered n (k ∷ ks) = (order_of k ≡ n) × Numbered (n + 1) ks

abbrev Among : TextKind → List TextKind → Type 0
Among kind [] = ⊥
Among kind (k ∷ ks) = (kind ≡ k) ⊎ Among kind ks

later : (n : ℕ) (ks : List TextKind) → Numbered n ks → (kind : TextKind) → Among kind ks → n ≤ order_of kind
later n [] h kind m = absurd m
later n (k ∷ ks) h kind (inl same) = let here : order_of kind ≡ n = ap order_of same ∙ h.0 in omega arith
later n (k ∷ ks) h kind (inr m) = let rest = later (n + 1) ks h.1 kind m in omega arith

abbrev Least : (TextKind → Bool) → List TextKind → TextKind → Type 0
Least test ks kind = (test kind ≡ true) × ((other : TextKind) → Among other ks → order_of other < order_of kind → test other ≡ false)

first_is_least : (test : TextKind → Bool) (n : ℕ) (ks : List TextKind) → Numbered n ks → (kind : TextKind) → first_kind test ks ≡ Some kind → Least test ks kind
first_is_least test n [] h kind e = absurd cc
first_is_least test n (k ∷ ks) h kind e = by (test k) refl e (first_is_least test (n + 1) ks h.1 kind)
  where
    by : (b : Bool) → test k ≡ b → cond b (Some k) (first_kind test ks) ≡ Some kind → (first_kind test ks ≡ Some kind → Least test ks kind) → Least test (k ∷ ks) kind
    by true t f further =
        let same : k ≡ kind = cc in
        let low : order_of kind ≡ n = ap order_of (sym same) ∙ h.0 in (
          ap test (sym same) ∙ t,
          λ other m less. absurd (let above = later n (k ∷ ks) h other m in omega arith),
        )
    by false t f further =
        let rest = further f in (
          rest.0,
          λ other m less. elim m [
            | inl same ↦ ap test same ∙ t
            | inr in_rest ↦ rest.1 other in_rest less
          ],
        )

least_is_first : (test : TextKind → Bool) (n : ℕ) (ks : List TextKind) → Numbered n ks → (kind : TextKind) → Among kind ks → Least test ks kind → first_kind test ks ≡ Some kind
least_is_first test n [] h kind m l = absurd m
least_is_first test n (k ∷ ks) h kind m l = by (test k) refl m (least_is_first test (n + 1) ks h.1 kind)
  where
    by : (b : Bool) → test k ≡ b → Among kind (k ∷ ks) → (Among kind ks → Least test ks kind → first_kind test ks ≡ Some kind) → cond b (Some k) (first_kind test ks) ≡ Some kind
    by true t (inl same) further = ap Some (sym same)
    by true t (inr in_rest) further =
        absurd (let above = later (n + 1) ks h.1 kind in_rest in let low = h.0 in true≢false (sym t ∙ l.1 k (inl refl) (omega arith)))
    by false t (inl same) further = absurd (true≢false (sym l.0 ∙ (ap test same ∙ t)))
    by false t (inr in_rest) further = further in_rest (l.0, λ other m less. l.1 other (inr m) less)

numbered : Numbered 1 all_kinds
numbered = (refl, (refl, (refl, (refl, (refl, (refl, (refl, (refl, (refl, (refl, (refl, (refl, (refl, (refl, tt))))))))))))))

each_kind : (kind : TextKind) → Among kind all_kinds
each_kind LineTooLong = inl refl
each_kind BadWord = inr (inl refl)
each_kind WordCount = inr (inr (inl refl))
each_kind BadNumber = inr (inr (inr (inl refl)))
each_kind BadName = inr (inr (inr (inr (inl refl))))
each_kind BadRights = inr (inr (inr (inr (inr (inl refl)))))
each_kind DuplicateVertex = inr (inr (inr (inr (inr (inr (inl refl))))))
each_kind TooManyVertices = inr (inr (inr (inr (inr (inr (inr (inl refl)))))))
each_kind UnknownVertex = inr (inr (inr (inr (inr (inr (inr (inr (inl refl))))))))
each_kind UnknownGroup = inr (inr (inr (inr (inr (inr (inr (inr (inr (inl refl)))))))))
each_kind DuplicateEdge = inr (inr (inr (inr (inr (inr (inr (inr (inr (inr (inl refl))))))))))
each_kind TooMany = inr (inr (inr (inr (inr (inr (inr (inr (inr (inr (inr (inl refl)))))))))))
each_kind NoHeader = inr (inr (inr (inr (inr (inr (inr (inr (inr (inr (inr (inr (inl refl))))))))))))
each_kind NoClaim = inr (inr (inr (inr (inr (inr (inr (inr (inr (inr (inr (inr (inr (inl refl)))))))))))))

-- where reading gives the first kind, it gives exactly the least one
pub exactly_least : {A : Type 0} (r : Result A TextKind) (test : TextKind → Bool) → fault_of r ≡ first_kind test all_kinds → (kind : TextKind) → (r ≡ Err kind) ↔ IsLeastKind test kind
exactly_least r test e kind = (
  λ f.
      let l = first_is_least test 1 all_kinds numbered kind (sym e ∙ ap fault_of f) in
      record { holds = l.0; least = λ other less. l.1 other (each_kind other) less },
  λ h. from_fault r kind (e ∙ least_is_first test 1 all_kinds numbered kind (each_kind kind) (h.holds, λ other m less. h.least other less)),
)
