use Rattle.std.proofs.Common.{◌≡◌, ℕ, ◌<◌, ◌+◌, length, slice_get}
use Rattle.std.specs.declared.option.Option.TheVariants.{Some}
use Rattle.tg_journal.specs.Pass.{fresh}
use Rattle.tg_journal.proofs.journal.Journal.passes.Given as goal

abbrev pub invariant-loop-number : goal.invariant-loop-number
invariant-loop-number g l = record {
  size : length l.passes.items ≡ l.number;
  each : (k : ℕ) → k < l.number → slice_get l.passes.items k ≡ Some (fresh l.self (k + 1));
}
