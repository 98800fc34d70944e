use Rattle.std.proofs.Common.{◌≡◌, ◌<◌, false, get_or, sym, ap, ◌∙◌, arith}
use Rattle.tg_names.specs.Names.{fits_at}
use Rattle.tg_names.proofs.NameFronts.{few_fit, nor_first, no_digit_first, first_of_all, ends_behind, ends_there}
use Rattle.tg_names.proofs.names.front_of_16.Goals as goal
use Rattle.tg_names.proofs.names.front_of_16.Goals.{then-len-eq0-via-then-len-eq0, then-len-eq0-via-else-len-eq0+then-bytes-le57}

pub returns-then-len-eq0-clause-longest : goal.returns-then-len-eq0-clause-longest
returns-then-len-eq0-clause-longest c =
    let bytes = c.args.bytes.now in
    let stops : fits_at 0 (get_or bytes 0 0) ≡ false = elim c.then-len-eq0.branch [
      | then-len-eq0-via-then-len-eq0 w ↦
          let none : c.fitting-len.result ≡ 0 = w.if-len-eq0.true in
          nor_first (get_or bytes 0 0) (ap (λ k. fits_at 1 (get_or bytes k 0)) (sym none) ∙ c.fitting-len.ensures.stops (omega (arith, none)))
      | then-len-eq0-via-else-len-eq0+then-bytes-le57 w ↦ no_digit_first (get_or bytes 0 0) w.if-bytes-le57.true
    ] in
    ends_there bytes 0 stops

pub returns-clause-fit : goal.returns-clause-fit
returns-clause-fit c =
    let bytes = c.args.bytes.now in
    let some : 0 < c.fitting-len.result = omega (arith, c.if-len-eq0.false) in
    few_fit bytes c.fitting-len.result some (omega (arith, c.told-bytes, c.fitting-len.ensures.few)) (first_of_all (get_or bytes 0 0) (omega (arith, c.if-bytes-le57.false)) (c.fitting-len.ensures.fit 0 some)) c.fitting-len.ensures.fit

pub returns-clause-longest : goal.returns-clause-longest
returns-clause-longest c = ends_behind c.args.bytes.now c.fitting-len.result (omega (arith, c.if-len-eq0.false)) c.fitting-len.ensures.few c.fitting-len.ensures.stops
