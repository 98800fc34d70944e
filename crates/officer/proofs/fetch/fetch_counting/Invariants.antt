use Rattle.std.proofs.Common.{ℕ, ◌-◌, ◌≤◌, List, Option, length}
use Rattle.std.specs.Io.KnownBytes.{Consumes}
use Rattle.officer.specs.declared.fetch.Reads.{Reads}
use Rattle.officer.specs.Inputs.{most_input_bytes, most_reads, read_count}
use Rattle.officer.proofs.fetch.fetch_counting.Given as goal

-- the bytes so far were taken from the reader by these reads, and each that gave any gave one at least
pub record HasTaken (given left : Option (List ℕ)) (bytes : List ℕ) (reads : Reads) : Type 0 where
  pub taken : Consumes given left bytes
  pub within : length bytes ≤ most_input_bytes
  pub each_gave : reads.gave ≤ length bytes
  pub few : read_count reads ≤ most_reads

abbrev pub invariant-loop-reads : goal.invariant-loop-reads
invariant-loop-reads g l = HasTaken (g.R.Read.remaining l.initial.reader) (g.R.Read.remaining l.reader) l.bytes.items l.reads

abbrev pub decreases-loop-reads : goal.decreases-loop-reads
decreases-loop-reads g l = most_reads - read_count l.reads
