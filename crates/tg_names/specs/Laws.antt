-- What the definitions come to. Each law is the contract of a function of the module `laws`.
use Rattle.std.specs.Prelude.{◌≡◌, codes, ℕ, ◌<◌, ◌≤◌, ◌⊎◌, ◌↔◌, List, ◌∷◌, ◌++◌, length, slice_index, All, Some, MatchOption}
use Rattle.std.specs.Ordering.{nat_cmp}
use Rattle.std.specs.declared.cmp.Ordering.TheVariants.{Less}
use Rattle.std.specs.Cmp.Lexicographic.{slice_cmp}
use Rattle.tg_names.specs.Names.{IsName, Name}
use Rattle.tg_names.specs.declared.right_sets.Rights.{Rights}
use Rattle.tg_names.specs.Sets.{IsNamed}
use Rattle.tg_names.specs.Letters.{letters_of, set_of_letters}
use Rattle.tg_names.specs.RightsWords.{IsRightsWord, IsSetOf, in_order}

-- a to z
abbrev pub IsLetter : ℕ → Type 0
IsLetter b = (97 ≤ b) × (b ≤ 122)

-- 0 to 9
abbrev pub IsDigit : ℕ → Type 0
IsDigit b = (48 ≤ b) × (b ≤ 57)

-- a letter, a digit or `_`
abbrev pub IsNameByte : ℕ → Type 0
IsNameByte b = IsLetter b ⊎ (IsDigit b ⊎ (b ≡ 95))

-- 1 to 16 bytes, each a letter, a digit or `_`, the first no digit
pub record IsSpelledAsName (bytes : List ℕ) : Type 0 where
  pub some : 0 < length bytes
  pub within : length bytes ≤ 16
  pub spelled : All IsNameByte bytes
  pub first : ¬ IsDigit (slice_index bytes 0)

abbrev pub NamesExactly : Type 0
NamesExactly = (bytes : List ℕ) → IsName bytes ↔ IsSpelledAsName bytes

-- a prefix comes before what it is a prefix of
abbrev pub PrefixFirst : Type 0
PrefixFirst = (x : Name) (b : ℕ) (rest : Name) → slice_cmp nat_cmp x (x ++ b ∷ rest) ≡ Less

-- else the first byte that differs decides
abbrev pub DifferenceDecides : Type 0
DifferenceDecides = (front : Name) (a b : ℕ) (x y : Name) → a < b → slice_cmp nat_cmp (front ++ a ∷ x) (front ++ b ∷ y) ≡ Less

-- a rights word is read as the set of exactly the rights whose letters it has, and nothing else is read
abbrev pub RightsWordsExactly : Type 0
RightsWordsExactly = (bytes : List ℕ) → MatchOption (set_of_letters bytes) (¬ IsRightsWord bytes) (λ s. IsRightsWord bytes × IsSetOf bytes s)

-- the letters of a set are those of its rights, in the order t g r w e a d
abbrev pub LettersInOrder : Type 0
LettersInOrder = (s : Rights) → letters_of s ≡ in_order s

-- and are read as the set, where there is one
abbrev pub LettersComeBack : Type 0
LettersComeBack = (s : Rights) → IsNamed s → 0 < length (letters_of s) → set_of_letters (letters_of s) ≡ Some s

-- a set without letters is the one that `-` writes
abbrev pub DashIsEmpty : Type 0
DashIsEmpty = (s : Rights) → IsNamed s → length (letters_of s) ≡ 0 → set_of_letters (codes "-") ≡ Some s
