-- What a step of reading gave, if it gave a value.
use Rattle.std.proofs.Common.{◌≡◌, refl, ◌∙◌, ap, subst, inl, inr, ◌⊎◌, ℕ, ◌≤◌, Bool, true, false, cond, eqb, ltb, List, [], ◌∷◌, length, Option, None, Some, Result, Ok, Err, arith}
use Rattle.std.specs.Prelude.{is_ok}
use Rattle.std.proofs.lemmas.Bool.{false≢true, eqb-false, ltb-false, ne_eqb, le-ltb}
use Rattle.std.proofs.lemmas.Slice.Eq.{bytes_eq-Decides}
use Rattle.tg_names.specs.declared.names.NameFault.TheVariants.{Empty, TooLong}
use Rattle.tg_names.specs.Names.{IsName, name_of, checked, first_bad}
use Rattle.tg_words.specs.declared.faults.TextKind.{TextKind}
use Rattle.tg_words.specs.declared.faults.TextKind.TheVariants.{BadName}
use Rattle.tg_words.specs.Reading.{◌>>=◌}
use Rattle.tg_words.specs.Words.{Word, is_word, value_or, name_at, one_word, three_words, four_words}

abbrev done : {A : Type 0} → A → Result A TextKind
done x = Ok x

pub ok_is : {A : Type 0} (x y : A) → done x ≡ done y → x ≡ y
ok_is x y e = cc

-- the value of a step that did not fail
pub bind_ok : {A B E : Type 0} (r : Result A E) (f : A → Result B E) (y : B) → (r >>= f) ≡ Ok y → (x : A) × (r ≡ Ok x) × (f x ≡ Ok y)
bind_ok (Ok x) f y e = (x, refl, e)
bind_ok (Err d) f y e = absurd cc

-- a test that did not fail
pub else_ok : {A : Type 0} (b : Bool) (d : TextKind) (r : Result A TextKind) (y : A) → cond b (Err d) r ≡ Ok y → (b ≡ false) × (r ≡ Ok y)
else_ok true d r y e = absurd cc
else_ok false d r y e = (refl, e)

-- which way a test went
pub chosen : {A : Type 0} (b : Bool) (x y z : A) → cond b x y ≡ z → ((b ≡ true) × (x ≡ z)) ⊎ ((b ≡ false) × (y ≡ z))
chosen true x y z e = inl (refl, e)
chosen false x y z e = inr (refl, e)

pub value_ok : {A : Type 0} (kind : TextKind) (o : Option A) (x : A) → value_or kind o ≡ Ok x → o ≡ Some x
value_ok kind None x e = absurd cc
value_ok kind (Some y) x e = ap Some (ok_is y x e)

-- two words are the same
pub word_is : (word keyword : Word) → is_word word keyword ≡ true → word ≡ keyword
word_is word keyword e = (bytes_eq-Decides word keyword).0 e

-- ---- names

no_fault : (p q : Bool) (o : Option ℕ) (word : Word) → is_ok (cond p (Err Empty) (cond q (Err TooLong) (checked word o))) ≡ true → (p ≡ false) × (q ≡ false) × (o ≡ None)
no_fault true q o word e = absurd (false≢true e)
no_fault false true o word e = absurd (false≢true e)
no_fault false false None word e = (refl, refl, refl)
no_fault false false (Some at) word e = absurd (false≢true e)

pub is_name : (word : Word) → is_ok (name_of word) ≡ true → IsName word
is_name word e =
    let f = no_fault (eqb (length word) 0) (ltb 16 (length word)) (first_bad 0 word) word e in
    let none : length word ≡ 0 → ⊥ = eqb-false (length word) 0 f.0 in
    let short : length word ≤ 16 = ltb-false 16 (length word) f.1 in
    record { some = omega arith; within = short; fit = f.2 }

pub name_ok : (word name : Word) → name_at word ≡ Ok name → (word ≡ name) × IsName name
name_ok word name e =
    elim (chosen (is_ok (name_of word)) (Ok word) (Err BadName) (Ok name) e) [
      | inl p ↦ (let same : word ≡ name = ok_is word name p.1 in (same, subst IsName same (is_name word p.0)))
      | inr p ↦ absurd (let other : ◌≡◌ {A = Result Word TextKind} (Err BadName) (Ok name) = p.1 in cc)
    ]

pub name_from : (name : Word) → IsName name → name_at name ≡ Ok name
name_from name h =
    let some : eqb (length name) 0 ≡ false = ne_eqb (length name) 0 (let more = h.some in λ e. omega arith) in
    let short : ltb 16 (length name) ≡ false = le-ltb 16 (length name) h.within in
    rw (some, short, h.fit) refl

-- ---- so many words

pub one_word_is : (words : List Word) (w : Word) → one_word words ≡ Ok w → words ≡ w ∷ []
one_word_is [] w e = absurd cc
one_word_is (a ∷ []) w e = ap (λ (v : Word). v ∷ []) (ok_is a w e)
one_word_is (a ∷ b ∷ words) w e = absurd cc

pub three_words_are : (words : List Word) (w : Word × Word × Word) → three_words words ≡ Ok w → words ≡ w.0 ∷ w.1 ∷ w.2 ∷ []
three_words_are [] w e = absurd cc
three_words_are (a ∷ []) w e = absurd cc
three_words_are (a ∷ b ∷ []) w e = absurd cc
three_words_are (a ∷ b ∷ c ∷ []) w e = ap (λ (v : Word × Word × Word). v.0 ∷ v.1 ∷ v.2 ∷ []) (ok_is (a, b, c) w e)
three_words_are (a ∷ b ∷ c ∷ d ∷ words) w e = absurd cc

pub four_words_are : (words : List Word) (w : Word × Word × Word × Word) → four_words words ≡ Ok w → words ≡ w.0 ∷ w.1 ∷ w.2 ∷ w.3 ∷ []
four_words_are [] w e = absurd cc
four_words_are (a ∷ words) w e =
    let b = bind_ok (three_words words) (λ v. Ok (a, v.0, v.1, v.2)) w e in
    ap (λ (ws : List Word). a ∷ ws) (three_words_are words b.0 b.1) ∙ ap (λ (v : Word × Word × Word × Word). v.0 ∷ v.1 ∷ v.2 ∷ v.3 ∷ []) (ok_is (a, b.0.0, b.0.1, b.0.2) w b.2)
