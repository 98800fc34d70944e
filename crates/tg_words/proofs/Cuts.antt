-- The first line of a text, and the first word of a line.
use Rattle.std.proofs.Common.{◌≡◌, refl, ap, ℕ, zero, suc, ◌+◌, ◌<◌, ◌≤◌, inl, inr, true, false, not, eqb, eq-eqb, List, [], ◌∷◌, take, drop, length, get_or, arith}
use Rattle.std.specs.List.{onto_first}
use Rattle.std.proofs.lemmas.Bool.{ne_eqb, not-true}
use Rattle.std.proofs.lemmas.Bool.Decides.{leb_tells}
use Rattle.std.proofs.lemmas.List.{drop_more}
use Rattle.tg_words.specs.Lines.{NoLineFeedBefore, is_line_feed, lines_of, words_of, is_blank, begins_with_word}

-- a line ends at the first line feed
pub line_at : (text : List ℕ) (i : ℕ) → NoLineFeedBefore text i → i < length text → get_or text i 0 ≡ 10 → lines_of text ≡ take i text ∷ lines_of (drop (suc i) text)
line_at [] i others inside here = absurd (omega arith)
line_at (b ∷ bs) zero others inside here = rw here refl
line_at (b ∷ bs) (suc i) others inside here =
    let other : eqb b 10 ≡ false = ne_eqb b 10 (others 0 (omega arith)) in
    let rest = line_at bs i (λ k lt. others (suc k) (omega arith)) (omega arith) here in
    rw (other, rest) refl

-- where no line feed stands in front of a place, and none from there up to another, none stands in front of that one
pub none_further : (text : List ℕ) (i n : ℕ) → NoLineFeedBefore text i → ((k : ℕ) → i ≤ k → k < i + n → is_line_feed (get_or text k 0) ≡ false) → NoLineFeedBefore text (i + n)
none_further text i n front back k inside here = elim (leb_tells i k) [
  | inl behind ↦
      let is : is_line_feed (get_or text k 0) ≡ true = eq-eqb (get_or text k 0) 10 here in
      let not_is = back k behind.1 inside in
      absurd cc
  | inr before ↦ front k before.1 here
]

-- a text without a line feed is one line
pub one_line : (text : List ℕ) → NoLineFeedBefore text (length text) → 0 < length text → lines_of text ≡ text ∷ []
one_line [] others some = absurd (omega arith)
one_line (b ∷ []) others some = rw (ne_eqb b 10 (others 0 (omega arith))) refl
one_line (b ∷ c ∷ bs) others some =
    let other : eqb b 10 ≡ false = ne_eqb b 10 (others 0 (omega arith)) in
    let rest = one_line (c ∷ bs) (λ k lt. others (suc k) (omega arith)) (omega arith) in
    rw other (ap (onto_first b) rest)

pub no_word_begins : (bytes : List ℕ) (i : ℕ) → i < length bytes → is_blank (get_or bytes i 0) ≡ true → begins_with_word (drop i bytes) ≡ false
no_word_begins bytes i inside blank = rw (drop_more bytes i 0 inside, blank) refl

-- a word ends where none begins
word_at_suc : (bytes : List ℕ) (i : ℕ) → ((k : ℕ) → k < suc i → is_blank (get_or bytes k 0) ≡ false) → suc i ≤ length bytes → begins_with_word (drop (suc i) bytes) ≡ false → words_of bytes ≡ take (suc i) bytes ∷ words_of (drop (suc i) bytes)
word_at_suc [] i parts inside end = absurd (omega arith)
word_at_suc (b ∷ bs) zero parts inside end = rw (parts 0 (omega arith), end) refl
word_at_suc (b ∷ []) (suc i) parts inside end = absurd (omega arith)
word_at_suc (b ∷ c ∷ bs) (suc i) parts inside end =
    let rest = word_at_suc (c ∷ bs) i (λ k lt. parts (suc k) (omega arith)) (omega arith) end in
    let head : is_blank b ≡ false = parts 0 (omega arith) in
    let next : is_blank c ≡ false = parts 1 (omega arith) in
    rw (head, ap not next) (ap (onto_first b) rest)

-- the same, of a place behind the first byte
pub word_at : (bytes : List ℕ) (i : ℕ) → ((k : ℕ) → k < i → is_blank (get_or bytes k 0) ≡ false) → 0 < i → i ≤ length bytes → begins_with_word (drop i bytes) ≡ false → words_of bytes ≡ take i bytes ∷ words_of (drop i bytes)
word_at bytes zero parts some inside end = absurd (omega arith)
word_at bytes (suc i) parts some inside end = word_at_suc bytes i parts inside end

-- where a word begins, there is a byte, and it is no blank
pub no_blank : (bytes : List ℕ) → begins_with_word bytes ≡ true → (0 < length bytes) × (is_blank (get_or bytes 0 0) ≡ false)
no_blank [] h = absurd cc
no_blank (b ∷ bs) h = (omega arith, not-true (is_blank b) h)
