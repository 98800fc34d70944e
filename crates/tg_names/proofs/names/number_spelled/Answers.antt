use Rattle.std.proofs.Common.{◌≡◌, ◌+◌, ◌*◌, ◌<◌, ◌≤◌, ◌^◌, ℕ, List, suc, sym, subst, take, length, get_or, Fits, w8, add-one, arith}
use Rattle.std.proofs.Math.Facts.{Fits-of_lt}
use Rattle.std.specs.Slice.Scan.{big_endian}
use Rattle.std.proofs.lemmas.List.{length-take-le}
use Rattle.tg_names.proofs.NameBytes.{one_more, are_bytes, number_fits_16}
use Rattle.tg_names.proofs.names.number_spelled.Goals as goal

further : (bytes : List ℕ) (i number byte : ℕ) → number ≡ big_endian 0 (take i bytes) → byte ≡ get_or bytes i 0 → i < length bytes → number * 256 + byte ≡ big_endian 0 (take (i + 1) bytes)
further bytes i number byte n b inside = rw (n, b, add-one) (sym (one_more 0 bytes i inside))

within : (bytes : List ℕ) (i : ℕ) → ((k : ℕ) → Fits w8 (get_or bytes k 0)) → i < length bytes → length bytes ≤ 16 → big_endian 0 (take i bytes) * 256 + get_or bytes i 0 < 2 ^ 128
within bytes i h inside few = subst (λ n. n < 2 ^ 128) (one_more 0 bytes i inside) (number_fits_16 (take (suc i) bytes) (are_bytes bytes (suc i) h) (rw (length-take-le (suc i) bytes (omega arith)) (omega arith)))

pub loop-i-preserved : goal.loop-i-preserved
loop-i-preserved c = further c.args.bytes.now c.loop-i.i c.loop-i.number c.from.result c.loop-i.invariant c.from.ensures c.loop-i-test.true

pub overflow_add-number : goal.overflow_add-number
overflow_add-number c =
    let low = within c.args.bytes.now c.loop-i.i c.type_inv.bytes c.loop-i-test.true c.requires in
    Fits-of_lt (rw (c.loop-i.invariant, c.from.ensures) low)

pub overflow_mul-number : goal.overflow_mul-number
overflow_mul-number c =
    let low = within c.args.bytes.now c.loop-i.i c.type_inv.bytes c.loop-i-test.true c.requires in
    Fits-of_lt (rw c.loop-i.invariant (omega (arith, low)))
