use Rattle.std.proofs.Common.{◌≡◌, ℕ, ◌+◌, ◌<◌, List, [], ◌++◌, Option, Err, length, inl, sym, subst, append-nil, length-append, arith}
use Rattle.std.specs.Io.KnownBytes.{Consumes}
use Rattle.std.proofs.KnownBytes.{Consumes-trans}
use Rattle.std.proofs.lemmas.Result.{err_from_is_err_and}
use Rattle.officer.specs.declared.fetch.Reads.{Reads}
use Rattle.officer.specs.declared.fetch.FetchFault.{FetchFault}
use Rattle.officer.specs.declared.fetch.FetchFault.TheVariants.{Unreadable, TooLarge, Memory}
use Rattle.officer.specs.Inputs.{most_reads, read_count, TakesIn, Fails}
use Rattle.officer.proofs.fetch.fetch_counting.Invariants.{HasTaken}
use Rattle.officer.proofs.fetch.fetch_counting.Goals as goal

-- a read that fails makes the fetch fail in the same way
failed : (given left left' : Option (List ℕ)) (bytes bytes' : List ℕ) (reads reads' : Reads) (fault : FetchFault) → HasTaken given left bytes reads → read_count reads < most_reads → TakesIn left left' bytes bytes' reads reads' (Err fault) → Fails given left' reads' fault
failed given left left' bytes bytes' reads reads' TooLarge h few t =
    let piece = t.0 in
    let longer : length (bytes ++ piece) ≡ length bytes + length piece = length-append bytes piece in
    (bytes ++ piece, Consumes-trans given left left' bytes piece h.taken t.1, record { too_many = inl (omega (arith, longer, t.2)); more = omega (arith, longer, t.2) })
failed given left left' bytes bytes' reads reads' Unreadable h few t =
    let taken = Consumes-trans given left left' bytes [] h.taken t.0 in
    (bytes, subst (Consumes given left') (append-nil bytes) taken, h.within, subst (λ (r : Reads). read_count r < most_reads) (sym t.1) few)
failed given left left' bytes bytes' reads reads' Memory h few t = tt

pub returns-in_err-read_on-clause-failed : goal.returns-in_err-read_on-clause-failed
returns-in_err-read_on-clause-failed g c =
    let handed_on = err_from_is_err_and c.from_residual.result c.from_residual.ensures.1 in
    rw handed_on.1 (rw handed_on.2 (failed _ _ _ _ c.read_on.new.bytes.items _ _ _ c.loop-reads.invariant (omega (arith, c.loop-reads-test.true)) c.in_err-read_on.ensures))
