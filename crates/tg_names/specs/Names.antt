-- Names as lists of bytes.
use Rattle.std.specs.Prelude.{◌≡◌, ℕ, ◌+◌, ◌-◌, ◌<◌, ◌≤◌, ◌==◌, Bool, true, ◌&&◌, ◌||◌, nat_lt, nat_le, List, [], ◌∷◌, ◌++◌, get_or, bytes_eq, length, replicate, take, decimal, Option, None, Some, Result, Ok, Err, if◌then◌else◌}
use Rattle.std.specs.Slice.Scan.{big_endian}
use Rattle.tg_names.specs.declared.names.NameFault.{NameFault}
use Rattle.tg_names.specs.declared.names.NameFault.TheVariants.{Empty, TooLong, BadByte}

abbrev pub Name : Type 0
Name = List ℕ

abbrev pub same_name : Name → Name → Bool
same_name = bytes_eq

-- whether the byte b may stand at the place k of a name: a-z and _ anywhere, 0-9 but at the front
abbrev pub fits_at : ℕ → ℕ → Bool
fits_at k b = (nat_le 97 b && nat_le b 122) || (b == 95) || (nat_lt 0 k && nat_le 48 b && nat_le b 57)

-- the place of the first byte that does not fit, where the list's own places count from k
abbrev pub first_bad : ℕ → List ℕ → Option ℕ
first_bad k [] = None
first_bad k (b ∷ bs) = if fits_at k b then first_bad (k + 1) bs else Some k

-- each byte in front of the place may stand behind another
abbrev pub AllFit : List ℕ → ℕ → Type 0
AllFit bytes place = (k : ℕ) → k < place → fits_at 1 (get_or bytes k 0) ≡ true

abbrev pub checked : List ℕ → Option ℕ → Result (List ℕ) NameFault
checked bytes None = Ok bytes
checked bytes (Some at) = Err (BadByte at)

-- the name that the bytes are, or the first fault
abbrev pub name_of : List ℕ → Result (List ℕ) NameFault
name_of bytes = if length bytes == 0 then Err Empty else (if nat_lt 16 (length bytes) then Err TooLong else checked bytes (first_bad 0 bytes))

-- `_` and a number: the names of helpers
abbrev pub helper_name : ℕ → List ℕ
helper_name k = 95 ∷ decimal k

-- 1 to 16 bytes, each of which fits
pub record IsName (bytes : List ℕ) : Type 0 where
  pub some : 0 < length bytes
  pub within : length bytes ≤ 16
  pub fit : first_bad 0 bytes ≡ None

-- the name stands at the front of the bytes and the rest behind it, and none that stands there is longer
pub record IsLongestName (bytes name rest : List ℕ) : Type 0 where
  pub joined : bytes ≡ name ++ rest
  pub valid : IsName name
  pub longest : (k : ℕ) → IsName (take k bytes) → length (take k bytes) ≤ length name

abbrev pub padded_to_16 : List ℕ → List ℕ
padded_to_16 bytes = bytes ++ replicate (16 - length bytes) 0

pub record IsPadded (padded : List ℕ) (len : ℕ) : Type 0 where
  pub within : len ≤ 16
  pub zeros : padded ≡ padded_to_16 (take len padded)
  pub name : IsName (take len padded)

-- the number that the padded bytes spell, the first byte the highest
abbrev pub name_number : List ℕ → ℕ
name_number bytes = big_endian 0 (padded_to_16 bytes)
