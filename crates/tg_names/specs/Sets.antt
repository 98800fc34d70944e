-- Sets of rights.
use Rattle.std.specs.Prelude.{ℕ, ◌+◌, ◌<◌, Bool, ◌==◌, if◌then◌else◌, Option, Some, None}
use Rattle.std.specs.Int.{bit_at}
use Rattle.tg_names.specs.declared.right_sets.Right.{Right}
use Rattle.tg_names.specs.declared.right_sets.Right.TheVariants.{T, G, R, W, E, A, D}
use Rattle.tg_names.specs.declared.right_sets.Rights.{Rights}

-- the bit that stands for a right
abbrev pub bit_of : Right → ℕ
bit_of T = 0
bit_of G = 1
bit_of R = 2
bit_of W = 3
bit_of E = 4
bit_of A = 5
bit_of D = 6

-- whether the right is in the set
abbrev pub member : Rights → Right → Bool
member s right = bit_at s.0 (bit_of right) == 1

-- no bit is set but those of the seven rights
abbrev pub IsNamed : Rights → Type 0
IsNamed s = s.0 < 128

abbrev pub weight : Bool → ℕ → ℕ
weight has n = if has then n else 0

-- the set of the rights that pass the test
abbrev pub rights_where : (Right → Bool) → Rights
rights_where test = record { 0 = weight (test T) 1 + weight (test G) 2 + weight (test R) 4 + weight (test W) 8 + weight (test E) 16 + weight (test A) 32 + weight (test D) 64 }

abbrev pub nothing : Rights
nothing = record { 0 = 0 }

abbrev pub is_empty_set : Rights → Bool
is_empty_set s = s.0 == 0

abbrev pub right_of_letter : ℕ → Option Right
right_of_letter n = if n == 116 then Some T else (if n == 103 then Some G else (if n == 114 then Some R else (if n == 119 then Some W else (if n == 101 then Some E else (if n == 97 then Some A else (if n == 100 then Some D else None))))))
