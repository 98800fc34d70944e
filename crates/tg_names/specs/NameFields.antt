-- A name's fields are those that its bytes give back.
use Rattle.std.specs.Prelude.{◌≡◌, ℕ, ◌≤◌, ◌-◌, true, bytes_eq, List, [], ◌∷◌, take, length, replicate}
use Rattle.std.proofs.Common.{sym, ap, arith}
use Rattle.std.proofs.lemmas.Slice.Eq.{bytes_eq-Decides}
use Rattle.std.proofs.lemmas.List.{length-take, length-append, length-replicate}
use Rattle.tg_names.specs.declared.names.Name.TheInside.{Inside}
use Rattle.tg_names.specs.Names.{padded_to_16, IsPadded}

abbrev pub fields_of : List ℕ → Inside
fields_of bytes = record { padded = padded_to_16 bytes; len = length bytes }

pub length-padded : (bytes : List ℕ) → length bytes ≤ 16 → length (padded_to_16 bytes) ≡ 16
length-padded bytes h = omega (arith, length-append bytes (replicate (16 - length bytes) 0), length-replicate {A = ℕ} (16 - length bytes) 0)

length_is : (len : ℕ) (padded : List ℕ) → len ≤ 16 → padded ≡ padded_to_16 (take len padded) → length (take len padded) ≡ len
length_is len padded h e =
    omega (arith, length-take len padded, ap length e, length-append (take len padded) (replicate (16 - length (take len padded)) 0), length-replicate {A = ℕ} (16 - length (take len padded)) 0)

pub fields_are : (a : Inside) → IsPadded a.padded a.len → fields_of (take a.len a.padded) ≡ a
fields_are a h = λ i. record { padded = sym h.zeros i; len = length_is a.len a.padded h.within h.zeros i }

-- equal names are hashed alike, as their padded bytes
pub equal_hash_alike : (a b : List ℕ) → bytes_eq a b ≡ true → padded_to_16 a ∷ [] ≡ padded_to_16 b ∷ []
equal_hash_alike a b e = ap (λ n. padded_to_16 n ∷ []) ((bytes_eq-Decides a b).0 e)
