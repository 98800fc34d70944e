-- Which bytes are read as a set of rights, and as which.
use Rattle.std.proofs.Common.{◌≡◌, ◌≢◌, ℕ, zero, suc, ◌<◌, ◌^◌, ◌⊎◌, inl, inr, Bool, true, false, ◌||◌, ◌==◌, List, [], ◌∷◌, Option, None, Some, refl, sym, ap, subst, ◌∙◌, ⊎_elim, arith, true≢false, bytes_eq, if◌then◌else◌}
use Rattle.std.specs.Bool.{IsTrue}
use Rattle.std.specs.List.{All, AllPairs, Contains}
use Rattle.std.specs.Option.{MatchOption}
use Rattle.std.proofs.lemmas.Bool.Decides.{Decides-eqb}
use Rattle.std.proofs.lemmas.Slice.Eq.{bytes_eq-Decides}
use Rattle.std.proofs.lemmas.List.Elements.{All-nil, All-cons, All-head, All-tail, Contains-get_or, Contains-append_right, Contains-append_cases}
use Rattle.std.proofs.lemmas.List.Kept.{AllPairs-cons}
use Rattle.std.proofs.lemmas.Nat.{or_lt}
use Rattle.tg_names.specs.declared.right_sets.Right.{Right}
use Rattle.tg_names.specs.declared.right_sets.Right.TheVariants.{T, G, R, W, E, A, D}
use Rattle.tg_names.specs.declared.right_sets.Rights.{Rights}
use Rattle.tg_names.specs.Sets.{member, bit_of, nothing, IsNamed, right_of_letter}
use Rattle.tg_names.specs.Letters.{letter_of, with_right, with_new_right, with_letters}
use Rattle.tg_names.specs.RightsWords.{all_letters, IsRightsWord, IsSetOf}
use Rattle.tg_names.specs.Laws.{RightsWordsExactly}
use Rattle.tg_names.proofs.Sets.{member-union, member-nothing}
use Rattle.tg_names.proofs.Letters.{none-letters}

-- letters and rights

one_letter : (right other : Right) → letter_of right ≡ letter_of other → right ≡ other
one_letter T T e = refl
one_letter G G e = refl
one_letter R R e = refl
one_letter W W e = refl
one_letter E E e = refl
one_letter A A e = refl
one_letter D D e = refl
one_letter right other e = absurd (omega arith)

letter_in : (right : Right) → Contains all_letters (letter_of right)
letter_in T = (0, omega arith, refl)
letter_in G = (1, omega arith, refl)
letter_in R = (2, omega arith, refl)
letter_in W = (3, omega arith, refl)
letter_in E = (4, omega arith, refl)
letter_in A = (5, omega arith, refl)
letter_in D = (6, omega arith, refl)

letter_read : (right : Right) → right_of_letter (letter_of right) ≡ Some right
letter_read T = refl
letter_read G = refl
letter_read R = refl
letter_read W = refl
letter_read E = refl
letter_read A = refl
letter_read D = refl

right_of_one : (b : ℕ) → Contains all_letters b → (right : Right) × (letter_of right ≡ b)
right_of_one b (zero, l, e) = (T, e)
right_of_one b (suc zero, l, e) = (G, e)
right_of_one b (suc (suc zero), l, e) = (R, e)
right_of_one b (suc (suc (suc zero)), l, e) = (W, e)
right_of_one b (suc (suc (suc (suc zero))), l, e) = (E, e)
right_of_one b (suc (suc (suc (suc (suc zero)))), l, e) = (A, e)
right_of_one b (suc (suc (suc (suc (suc (suc zero))))), l, e) = (D, e)
right_of_one b (suc (suc (suc (suc (suc (suc (suc k)))))), l, e) = absurd (omega arith)

letter_is_read : (b : ℕ) → Contains all_letters b → (right : Right) × (right_of_letter b ≡ Some right)
letter_is_read b h = let one = right_of_one b h in (one.0, subst (λ n. right_of_letter n ≡ Some one.0) one.1 (letter_read one.0))

module _ (b : ℕ) (right : Right) where
  abbrev Gives : Option Right → Type 0
  Gives o = o ≡ Some right → b ≡ letter_of right

  or_later : (r : Right) (rest : Option Right) → Gives rest → (t : Bool) → (t ≡ true → b ≡ letter_of r) → Gives (if t then Some r else rest)
  or_later r rest g true h e = let same : r ≡ right = cc in h refl ∙ ap letter_of same
  or_later r rest g false h e = g e

  no_right : Gives None
  no_right e = cc

  read_letter : right_of_letter b ≡ Some right → b ≡ letter_of right
  read_letter =
      or_later T _ (or_later G _ (or_later R _ (or_later W _ (or_later E _ (or_later A _ (or_later D None no_right
      (b == 100) (λ t. (Decides-eqb b 100).0 t)) (b == 97) (λ t. (Decides-eqb b 97).0 t)) (b == 101) (λ t. (Decides-eqb b 101).0 t)) (b == 119) (λ t. (Decides-eqb b 119).0 t)) (b == 114) (λ t. (Decides-eqb b 114).0 t)) (b == 103) (λ t. (Decides-eqb b 103).0 t)) (b == 116) (λ t. (Decides-eqb b 116).0 t)

-- elements of a list

only : (b y : ℕ) → Contains (b ∷ []) y → b ≡ y
only b y (zero, l, e) = e
only b y (suc k, l, e) = absurd (omega arith)

contains_cases : (b : ℕ) (bs : List ℕ) (y : ℕ) → Contains (b ∷ bs) y → (b ≡ y) ⊎ Contains bs y
contains_cases b bs y c = ⊎_elim (λ h. inl (only b y h)) (λ h. inr h) (Contains-append_cases (b ∷ []) bs y c)

contains_later : (b : ℕ) (bs : List ℕ) (y : ℕ) → Contains bs y → Contains (b ∷ bs) y
contains_later b bs y c = Contains-append_right (b ∷ []) bs y c

contains_first : (b : ℕ) (bs : List ℕ) (y : ℕ) → b ≡ y → Contains (b ∷ bs) y
contains_first b bs y e = (0, omega arith, e)

contains_none : (y : ℕ) → ¬ Contains [] y
contains_none y (k, l, e) = absurd (omega arith)

-- a right more

pub one_itself : (right : Right) → IsTrue (member (record { 0 = 2 ^ bit_of right }) right)
one_itself T = refl
one_itself G = refl
one_itself R = refl
one_itself W = refl
one_itself E = refl
one_itself A = refl
one_itself D = refl

pub one_alone : (right other : Right) → IsTrue (member (record { 0 = 2 ^ bit_of right }) other) → right ≡ other
one_alone T T m = refl
one_alone G G m = refl
one_alone R R m = refl
one_alone W W m = refl
one_alone E E m = refl
one_alone A A m = refl
one_alone D D m = refl
one_alone right other m = absurd (true≢false (sym m))

one_named : (right : Right) → 2 ^ bit_of right < 128
one_named T = omega arith
one_named G = omega arith
one_named R = omega arith
one_named W = omega arith
one_named E = omega arith
one_named A = omega arith
one_named D = omega arith

or_cases : (x y : Bool) → IsTrue (x || y) → IsTrue x ⊎ IsTrue y
or_cases true y h = inl refl
or_cases false y h = inr h

or_left : (x y : Bool) → IsTrue x → IsTrue (x || y)
or_left true y h = refl
or_left false y h = absurd (true≢false (sym h))

or_right : (x y : Bool) → IsTrue y → IsTrue (x || y)
or_right true y h = refl
or_right false y h = h

module _ (s : Rights) (right : Right) where
  more : (other : Right) → member (with_right s right) other ≡ (member s other || member (record { 0 = 2 ^ bit_of right }) other)
  more = member-union s (record { 0 = 2 ^ bit_of right }) (with_right s right) refl

  more_cases : (other : Right) → IsTrue (member (with_right s right) other) → IsTrue (member s other) ⊎ (right ≡ other)
  more_cases other m = ⊎_elim (λ h. inl h) (λ h. inr (one_alone right other h)) (or_cases _ _ (sym (more other) ∙ m))

  more_before : (other : Right) → IsTrue (member s other) → IsTrue (member (with_right s right) other)
  more_before other m = more other ∙ or_left _ _ m

  more_new : IsTrue (member (with_right s right) right)
  more_new = more right ∙ or_right (member s right) _ (one_itself right)

  more_named : IsNamed s → IsNamed (with_right s right)
  more_named n = or_lt 7 s.0 (2 ^ bit_of right) n (one_named right)

-- letters none of which s has
record Adds (s : Rights) (bs : List ℕ) : Type 0 where
  letters : All (Contains all_letters) bs
  apart : AllPairs (λ a b. a ≢ b) bs
  new : (right : Right) → IsTrue (member s right) → ¬ Contains bs (letter_of right)

-- s with their rights
record IsSum (s : Rights) (bs : List ℕ) (u : Rights) : Type 0 where
  named : IsNamed u
  here : (right : Right) → IsTrue (member u right) → IsTrue (member s right) ⊎ Contains bs (letter_of right)
  before : (right : Right) → IsTrue (member s right) → IsTrue (member u right)
  added : (right : Right) → Contains bs (letter_of right) → IsTrue (member u right)

abbrev Reads : Rights → List ℕ → Option Rights → Type 0
Reads s bs o = MatchOption o (¬ Adds s bs) (λ u. Adds s bs × IsSum s bs u)

reads_none : (s : Rights) → IsNamed s → Reads s [] (Some s)
reads_none s n = (
  record { letters = All-nil (Contains all_letters); apart = λ i j d p q. absurd (omega arith); new = λ right m c. contains_none (letter_of right) c },
  record { named = n; here = λ right m. inl m; before = λ right m. m; added = λ right c. absurd (contains_none (letter_of right) c) },
)

module _ (s : Rights) (b : ℕ) (bs : List ℕ) (right : Right) (is : b ≡ letter_of right) where
  adds_here : member s right ≡ false → Adds (with_right s right) bs → Adds s (b ∷ bs)
  adds_here f a = record {
    letters = All-cons (Contains all_letters) b bs (subst (Contains all_letters) (sym is) (letter_in right)) a.letters;
    apart =
        AllPairs-cons (λ a b. a ≢ b) b bs
        (λ k d l e. a.new right (more_new s right) (subst (Contains bs) (sym e ∙ is) (Contains-get_or bs k d l)))
        a.apart;
    new = λ other m c. by other m (contains_cases b bs (letter_of other) c);
  }
    where
      by : (other : Right) → IsTrue (member s other) → (b ≡ letter_of other) ⊎ Contains bs (letter_of other) → ⊥
      by other m (inl e) = true≢false (sym m ∙ ap (member s) (sym (one_letter right other (sym is ∙ e))) ∙ f)
      by other m (inr c) = a.new other (more_before s right other m) c

  adds_later : Adds s (b ∷ bs) → Adds (with_right s right) bs
  adds_later a = record {
    letters = All-tail (Contains all_letters) b bs a.letters;
    apart = λ i j d p q. a.apart (suc i) (suc j) d (omega arith) (omega arith);
    new = λ other m c. by other c (more_cases s right other m);
  }
    where
      apart_from : (y : ℕ) → Contains bs y → b ≢ y
      apart_from y (k, l, e) same = a.apart 0 (suc k) y (omega arith) (omega arith) (same ∙ sym e)

      by : (other : Right) → Contains bs (letter_of other) → IsTrue (member s other) ⊎ (right ≡ other) → ⊥
      by other c (inl m) = a.new other m (contains_later b bs (letter_of other) c)
      by other c (inr e) = apart_from (letter_of other) c (is ∙ ap letter_of e)

  sums_here : (u : Rights) → IsSum (with_right s right) bs u → IsSum s (b ∷ bs) u
  sums_here u m = record {
    named = m.named;
    here = λ other h. ⊎_elim (λ w. of_one other (more_cases s right other w)) (λ c. inr (contains_later b bs (letter_of other) c)) (m.here other h);
    before = λ other h. m.before other (more_before s right other h);
    added = λ other c. ⊎_elim (λ e. subst (λ r. IsTrue (member u r)) (one_letter right other (sym is ∙ e)) (m.before right (more_new s right))) (λ c. m.added other c) (contains_cases b bs (letter_of other) c);
  }
    where
      of_one : (other : Right) → IsTrue (member s other) ⊎ (right ≡ other) → IsTrue (member s other) ⊎ Contains (b ∷ bs) (letter_of other)
      of_one other (inl h) = inl h
      of_one other (inr e) = inr (contains_first b bs (letter_of other) (is ∙ ap letter_of e))

  reads_more : member s right ≡ false → (o : Option Rights) → Reads (with_right s right) bs o → Reads s (b ∷ bs) o
  reads_more f None r = λ a. r (adds_later a)
  reads_more f (Some u) r = (adds_here f r.0, sums_here u r.1)

  reads_twice : member s right ≡ true → Reads s (b ∷ bs) None
  reads_twice t = λ a. a.new right t (contains_first b bs (letter_of right) is)

reads_other : (s : Rights) (b : ℕ) (bs : List ℕ) → right_of_letter b ≡ None → Reads s (b ∷ bs) None
reads_other s b bs e = λ a. let read = letter_is_read b (All-head (Contains all_letters) b bs a.letters) in let none : None ≡ Some read.0 = sym e ∙ read.1 in cc

reads : (bs : List ℕ) (s : Rights) → IsNamed s → Reads s bs (with_letters (Some s) bs)
reads [] s n = reads_none s n
reads (b ∷ bs) s n = by (right_of_letter b) refl (reads bs)
  where
    seen : (right : Right) → right_of_letter b ≡ Some right → ((s : Rights) → IsNamed s → Reads s bs (with_letters (Some s) bs)) → (t : Bool) → member s right ≡ t → Reads s (b ∷ bs) (with_letters (if t then None else Some (with_right s right)) bs)
    seen right e rest true t = subst (Reads s (b ∷ bs)) (sym (none-letters bs)) (reads_twice s b bs right (read_letter b right e) t)
    seen right e rest false t = reads_more s b bs right (read_letter b right e) t (with_letters (Some (with_right s right)) bs) (rest (with_right s right) (more_named s right n))

    by : (o : Option Right) → right_of_letter b ≡ o → ((s : Rights) → IsNamed s → Reads s bs (with_letters (Some s) bs)) → Reads s (b ∷ bs) (with_letters (with_new_right s o) bs)
    by None e rest = subst (Reads s (b ∷ bs)) (sym (none-letters bs)) (reads_other s b bs e)
    by (Some right) e rest = seen right e rest (member s right) refl

-- the whole word

abbrev IsExact : List ℕ → Option Rights → Type 0
IsExact bytes o = MatchOption o (¬ IsRightsWord bytes) (λ s. IsRightsWord bytes × IsSetOf bytes s)

no_member : (right : Right) → ¬ IsTrue (member nothing right)
no_member right m = true≢false (sym m ∙ member-nothing right)

dash_is_no_letter : (right : Right) → 45 ≢ letter_of right
dash_is_no_letter T e = absurd (omega arith)
dash_is_no_letter G e = absurd (omega arith)
dash_is_no_letter R e = absurd (omega arith)
dash_is_no_letter W e = absurd (omega arith)
dash_is_no_letter E e = absurd (omega arith)
dash_is_no_letter A e = absurd (omega arith)
dash_is_no_letter D e = absurd (omega arith)

dash_exact : (bytes : List ℕ) → bytes ≡ 45 ∷ [] → IsExact bytes (Some nothing)
dash_exact bytes e = (
  inl e,
  record {
    named = omega arith;
    members = λ right. (
      (λ m. absurd (no_member right m)),
      λ c. absurd (dash_is_no_letter right (only 45 (letter_of right) (subst (λ bs. Contains bs (letter_of right)) e c))),
    );
  },
)

no_bytes_exact : IsExact [] None
no_bytes_exact (inl e) = cc
no_bytes_exact (inr a) = absurd (omega (arith, a.some))

letters_exact : (b : ℕ) (bs : List ℕ) → (b ∷ bs ≡ 45 ∷ [] → ⊥) → (o : Option Rights) → Reads nothing (b ∷ bs) o → IsExact (b ∷ bs) o
letters_exact b bs f None r = by
  where
    by : ¬ IsRightsWord (b ∷ bs)
    by (inl e) = f e
    by (inr a) = r (record { letters = a.letters; apart = a.apart; new = λ right m c. no_member right m })
letters_exact b bs f (Some s) r = (
  inr (record { some = omega arith; letters = r.0.letters; apart = r.0.apart }),
  record {
    named = r.1.named;
    members = λ right. (
      (λ m. ⊎_elim (λ h. absurd (no_member right h)) (λ c. c) (r.1.here right m)),
      λ c. r.1.added right c,
    );
  },
)

pub rights_words_exactly : RightsWordsExactly
rights_words_exactly bytes = by bytes (bytes_eq bytes (45 ∷ [])) refl
  where
    by : (bytes : List ℕ) (t : Bool) → bytes_eq bytes (45 ∷ []) ≡ t → IsExact bytes (if t then Some nothing else (if bytes_eq bytes [] then None else with_letters (Some nothing) bytes))
    by bytes true e = dash_exact bytes ((bytes_eq-Decides bytes (45 ∷ [])).0 e)
    by [] false e = no_bytes_exact
    by (b ∷ bs) false e =
        letters_exact b bs (λ h. true≢false (sym ((bytes_eq-Decides (b ∷ bs) (45 ∷ [])).1 h) ∙ e)) (with_letters (Some nothing) (b ∷ bs)) (reads (b ∷ bs) nothing (omega arith))
