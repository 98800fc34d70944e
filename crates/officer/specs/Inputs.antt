-- What is fetched from a reader.
use Rattle.std.specs.Prelude.{◌≡◌, ◌⊎◌, ℕ, ◌+◌, ◌<◌, ◌≤◌, Bool, true, false, List, [], ◌∷◌, ◌++◌, length, Option, Result, Ok, Err, ⊤}
use Rattle.std.specs.Io.KnownBytes.{Consumes, IsAtEnd}
use Rattle.officer.specs.declared.fetch.Reads.{Reads}
use Rattle.officer.specs.declared.fetch.FetchFault.{FetchFault}
use Rattle.officer.specs.declared.fetch.FetchFault.TheVariants.{Unreadable, TooLarge, Memory}

-- how many bytes an input may have
abbrev pub most_input_bytes : ℕ
most_input_bytes = 67108864

-- how many reads an input may take: one for each byte, and one that finds the end
abbrev pub most_reads : ℕ
most_reads = 67108865

abbrev pub read_count : Reads → ℕ
read_count reads = reads.gave + reads.interrupted

-- the reads, and one more that gave this piece; one that gave no byte was interrupted
abbrev pub counted : Reads → List ℕ → Reads
counted reads [] = record { gave = reads.gave; interrupted = reads.interrupted + 1 }
counted reads (_ ∷ _) = record { gave = reads.gave + 1; interrupted = reads.interrupted }

-- One read takes the bytes `piece` from the reader and appends them to what was taken before.
pub record TakesPiece (left left' : Option (List ℕ)) (taken taken' piece : List ℕ) : Type 0 where
  pub consumed : Consumes left left' piece
  pub appended : taken' ≡ taken ++ piece

-- What one read does: it takes a piece, none if it was interrupted, or finds the end, or fails.
abbrev pub TakesIn : Option (List ℕ) → Option (List ℕ) → List ℕ → List ℕ → Reads → Reads → Result Bool FetchFault → Type 0
TakesIn left left' taken taken' reads reads' (Ok false) = (piece : List ℕ) × TakesPiece left left' taken taken' piece × (length taken' ≤ most_input_bytes) × (reads' ≡ counted reads piece)
TakesIn left left' taken taken' reads reads' (Ok true) = (taken' ≡ taken) × Consumes left left' [] × IsAtEnd left'
TakesIn left left' taken taken' reads reads' (Err TooLarge) = (piece : List ℕ) × Consumes left left' piece × (most_input_bytes < length taken + length piece) × (reads' ≡ reads)
TakesIn left left' taken taken' reads reads' (Err Unreadable) = Consumes left left' [] × (reads' ≡ reads)
TakesIn left left' taken taken' reads reads' (Err Memory) = ⊤

-- The bytes `gone` are more than an input may have, or as many reads as an input may take did not find its
-- end. Each of these gave a byte or was interrupted: where none was, the bytes are too many in either case.
pub record IsTooMuch (reads : Reads) (gone : List ℕ) : Type 0 where
  pub too_many : (most_input_bytes < length gone) ⊎ (read_count reads ≡ most_reads)
  pub more : most_input_bytes < length gone + reads.interrupted

-- Why a reader that had the bytes `given`, and has `left`, was not fetched, after these reads. The bytes
-- `gone` are those that it gave up.
abbrev pub Fails : Option (List ℕ) → Option (List ℕ) → Reads → FetchFault → Type 0
Fails given left reads TooLarge = (gone : List ℕ) × Consumes given left gone × IsTooMuch reads gone
Fails given left reads Unreadable = (gone : List ℕ) × Consumes given left gone × (length gone ≤ most_input_bytes) × (read_count reads < most_reads)
Fails given left reads Memory = ⊤

-- the same after some reads; what a reader says of itself does not tell how often it was interrupted
abbrev pub FailsAfterReads : Option (List ℕ) → Option (List ℕ) → FetchFault → Type 0
FailsAfterReads given left fault = (reads : Reads) × Fails given left reads fault
