use Rattle.std.proofs.Common.{◌≡◌, ◌<◌, ◌^◌, drop}
use Rattle.tg_words.specs.Words.{with_digits}
use Rattle.tg_words.proofs.words.with_digits.Given as goal

abbrev pub invariant-loop-byte : goal.invariant-loop-byte
invariant-loop-byte l = record {
  so_far : with_digits l.number (drop l.byte-index l.digits) ≡ with_digits 0 l.digits;
  few : l.number < 10 ^ l.byte-index;
}
