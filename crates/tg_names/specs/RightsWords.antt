-- Words of rights by their letters, in words of their own.
use Rattle.std.specs.Prelude.{◌≡◌, ◌≢◌, ℕ, ◌<◌, Bool, false, IsTrue, ◌⊎◌, ◌↔◌, List, length, codes, All}
use Rattle.std.specs.List.{Contains, AllPairs, filter}
use Rattle.std.specs.Option.{option_map_or}
use Rattle.tg_names.specs.declared.right_sets.Right.{Right}
use Rattle.tg_names.specs.declared.right_sets.Rights.{Rights}
use Rattle.tg_names.specs.Sets.{member, IsNamed, right_of_letter}
use Rattle.tg_names.specs.Letters.{letter_of}

-- the letters of rights in their order
abbrev pub all_letters : List ℕ
all_letters = codes "tgrwead"

-- one letter or more, none twice
pub record AreLetters (bytes : List ℕ) : Type 0 where
  pub some : 0 < length bytes
  pub letters : All (Contains all_letters) bytes
  pub apart : AllPairs (λ a b. a ≢ b) bytes

-- `-`, or letters
abbrev pub IsRightsWord : List ℕ → Type 0
IsRightsWord bytes = (bytes ≡ codes "-") ⊎ AreLetters bytes

-- the set has exactly the rights whose letters are among the bytes
pub record IsSetOf (bytes : List ℕ) (s : Rights) : Type 0 where
  pub named : IsNamed s
  pub members : (right : Right) → IsTrue (member s right) ↔ Contains bytes (letter_of right)

-- the byte is the letter of a right of s
abbrev pub writes_one_of : Rights → ℕ → Bool
writes_one_of s letter = option_map_or (member s) (right_of_letter letter) false

-- t, g, r, w, e, a and d, those of the rights of s
abbrev pub in_order : Rights → List ℕ
in_order s = filter (writes_one_of s) all_letters
