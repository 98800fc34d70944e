-- Sets of rights as letters.
use Rattle.std.specs.Prelude.{ℕ, ◌^◌, List, [], ◌∷◌, Option, Some, None, bytes_eq, bit_or, if◌then◌else◌}
use Rattle.tg_names.specs.declared.right_sets.Right.{Right}
use Rattle.tg_names.specs.declared.right_sets.Right.TheVariants.{T, G, R, W, E, A, D}
use Rattle.tg_names.specs.declared.right_sets.Rights.{Rights}
use Rattle.tg_names.specs.Sets.{member, bit_of, nothing, right_of_letter}

-- the seven rights in the order of their letters
abbrev pub all_rights : List Right
all_rights = T ∷ G ∷ R ∷ W ∷ E ∷ A ∷ D ∷ []

abbrev pub letter_of : Right → ℕ
letter_of T = 116
letter_of G = 103
letter_of R = 114
letter_of W = 119
letter_of E = 101
letter_of A = 97
letter_of D = 100

-- the set of the right, if there is one
abbrev pub set_of_right : Option Right → Rights
set_of_right None = nothing
set_of_right (Some right) = record { 0 = 2 ^ bit_of right }

-- the letters of those of the rights that are in s
abbrev pub letters_among : Rights → List Right → List ℕ
letters_among s [] = []
letters_among s (right ∷ rest) = if member s right then letter_of right ∷ letters_among s rest else letters_among s rest

abbrev pub letters_of : Rights → List ℕ
letters_of s = letters_among s all_rights

abbrev pub with_right : Rights → Right → Rights
with_right s right = record { 0 = bit_or s.0 (2 ^ bit_of right) }

abbrev pub with_new_right : Rights → Option Right → Option Rights
with_new_right s None = None
with_new_right s (Some right) = if member s right then None else Some (with_right s right)

-- s with the rights of the letters, none of which it has before
abbrev pub with_letters : Option Rights → List ℕ → Option Rights
with_letters s [] = s
with_letters None (b ∷ bs) = None
with_letters (Some s) (b ∷ bs) = with_letters (with_new_right s (right_of_letter b)) bs

-- the set that the letters write: `-`, or one letter or more, none twice
abbrev pub set_of_letters : List ℕ → Option Rights
set_of_letters bs = if bytes_eq bs (45 ∷ []) then Some nothing else (if bytes_eq bs [] then None else with_letters (Some nothing) bs)
