-- What a word writes.
use Rattle.std.specs.Prelude.{◌≡◌, refl, ℕ, ◌+◌, ◌-◌, ◌*◌, nat_le, nat_lt, Bool, ◌==◌, ◌&&◌, ◌||◌, List, [], ◌∷◌, length, codes, bytes_eq, is_ok, Option, Some, None, Result, Ok, Err, if◌then◌else◌}
use Rattle.tg_names.specs.declared.right_sets.Right.{Right}
use Rattle.tg_names.specs.declared.right_sets.Rights.{Rights}
use Rattle.tg_names.specs.Names.{name_of}
use Rattle.tg_names.specs.Sets.{is_empty_set, right_of_letter}
use Rattle.tg_names.specs.Letters.{set_of_letters}
use Rattle.tg_words.specs.declared.faults.TextKind.{TextKind}
use Rattle.tg_words.specs.declared.faults.TextKind.TheVariants.{BadWord, WordCount, BadNumber, BadName, BadRights}
use Rattle.tg_words.specs.Reading.{◌>>=◌}

abbrev pub Word : Type 0
Word = List ℕ

-- the value, or the fault if there is none
abbrev pub value_or : {A : Type 0} → TextKind → Option A → Result A TextKind
value_or kind None = Err kind
value_or kind (Some x) = Ok x

-- a name writes itself
abbrev pub name_at : Word → Result (List ℕ) TextKind
name_at word = if is_ok (name_of word) then Ok word else Err BadName

abbrev pub rights_at : Word → Result Rights TextKind
rights_at word = value_or BadRights (set_of_letters word)

-- a set of rights that is not empty
abbrev pub some_rights_at : Word → Result Rights TextKind
some_rights_at word = do
  s ← rights_at word
  if is_empty_set s then Err BadRights else Ok s

-- the right of a word of one letter
abbrev pub right_of : Word → Option Right
right_of [] = None
right_of (letter ∷ []) = right_of_letter letter
right_of (letter ∷ b ∷ bs) = None

abbrev pub right_at : Word → Result Right TextKind
right_at word = value_or BadRights (right_of word)

abbrev pub is_digit : ℕ → Bool
is_digit b = nat_le 48 b && nat_le b 57

-- the number that n and digits behind it write
abbrev pub with_digits : ℕ → Word → Option ℕ
with_digits n [] = Some n
with_digits n (b ∷ bs) = if is_digit b then with_digits (10 * n + (b - 48)) bs else None

-- one to four digits, the first not 0
abbrev pub number_of : Word → Option ℕ
number_of [] = None
number_of (b ∷ bs) = if b == 48 || nat_lt 3 (length bs) then None else with_digits 0 (b ∷ bs)

abbrev pub at_most : ℕ → Option ℕ → Option ℕ
at_most limit None = None
at_most limit (Some n) = if nat_le n limit then Some n else None

-- a number from 1 to the limit
abbrev pub number_up_to : ℕ → Word → Result ℕ TextKind
number_up_to limit word = value_or BadNumber (at_most limit (number_of word))

-- so many words and no more
abbrev pub no_words : List Word → Result (Unit {0}) TextKind
no_words [] = Ok tt
no_words (a ∷ words) = Err WordCount

abbrev pub one_word : List Word → Result Word TextKind
one_word [] = Err WordCount
one_word (a ∷ []) = Ok a
one_word (a ∷ b ∷ words) = Err WordCount

abbrev pub three_words : List Word → Result (Word × Word × Word) TextKind
three_words [] = Err WordCount
three_words (a ∷ []) = Err WordCount
three_words (a ∷ b ∷ []) = Err WordCount
three_words (a ∷ b ∷ c ∷ []) = Ok (a, b, c)
three_words (a ∷ b ∷ c ∷ d ∷ words) = Err WordCount

abbrev pub four_words : List Word → Result (Word × Word × Word × Word) TextKind
four_words [] = Err WordCount
four_words (a ∷ words) = three_words words >>= λ w. Ok (a, w.0, w.1, w.2)

-- a word, and one word or more behind it
abbrev pub word_and_some : List Word → Result (Word × List Word) TextKind
word_and_some [] = Err WordCount
word_and_some (a ∷ []) = Err WordCount
word_and_some (a ∷ b ∷ words) = Ok (a, b ∷ words)

-- a word, and two words behind it
abbrev pub word_and_two : List Word → Result (Word × List Word) TextKind
word_and_two [] = Err WordCount
word_and_two (a ∷ []) = Err WordCount
word_and_two (a ∷ b ∷ []) = Err WordCount
word_and_two (a ∷ b ∷ c ∷ []) = Ok (a, b ∷ c ∷ [])
word_and_two (a ∷ b ∷ c ∷ d ∷ words) = Err WordCount

abbrev pub is_word : Word → Word → Bool
is_word = bytes_eq

-- the number in a header line, which begins with the keyword
unfoldable pub header_number : Word → ℕ → List Word → Result ℕ TextKind
header_number keyword limit [] = Err BadWord
header_number keyword limit (word ∷ words) =
    if is_word word keyword then (one_word words >>= λ number. number_up_to limit number) else Err BadWord

a_number_has_no_zero_in_front : number_of (codes "01") ≡ None
a_number_has_no_zero_in_front = refl

a_number_has_four_digits : number_of (codes "4096") ≡ Some 4096
a_number_has_four_digits = refl

a_number_has_not_five : number_of (codes "65536") ≡ None
a_number_has_not_five = refl
