use Rattle.std.proofs.Common.{◌<◌, length, take, get_or, slice_set, sym, ap, ◌∙◌, add-one, arith}
use Rattle.tg_names.specs.Names.{first_bad, padded_to_16}
use Rattle.tg_names.proofs.NameFronts.{ends_there, one_more_at_front, one_more_padded}
use Rattle.tg_names.proofs.names.front_of_few.Goals as goal

pub returns-then-not-fits_at-clause-longest : goal.returns-then-not-fits_at-clause-longest
returns-then-not-fits_at-clause-longest c = ends_there c.args.bytes.now c.loop-i.i (sym c.fits_at.ensures ∙ c.if-not-fits_at.true)

pub loop-i-preserved : goal.loop-i-preserved
loop-i-preserved c =
    let bytes = c.args.bytes.now in
    let i = c.loop-i.i in
    let within : i < length bytes = c.loop-i-test.true in
    let few : i < 16 = omega (arith, within, c.requires) in
    record {
      padded = ap (λ p. slice_set p i (get_or bytes i 0)) c.loop-i.invariant.padded ∙ one_more_padded bytes i within few ∙ ap (λ m. padded_to_16 (take m bytes)) (sym (add-one i));
      fit = ap (λ m. first_bad 0 (take m bytes)) (add-one i) ∙ one_more_at_front bytes i within c.loop-i.invariant.fit (sym c.fits_at.ensures ∙ c.if-not-fits_at.false);
    }
