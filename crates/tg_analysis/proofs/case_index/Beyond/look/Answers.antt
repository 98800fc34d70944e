use Rattle.std.proofs.Common.{◌<◌, length, refl, arith}
use Rattle.tg_analysis.specs.Cases.{is_marked}
use Rattle.tg_analysis.proofs.LookedIslands.{looks-more}
use Rattle.tg_analysis.proofs.case_index.Beyond.look.Goals as goal

pub returns-clause-has : goal.returns-clause-has
returns-clause-has c = λ numbers members has.
    let low : c.args.number < length c.args.self.now.places.items = omega arith in
    looks-more numbers (is_marked c.args.allowed.now) c.args.self.now _ c.args.number c.first_beyond.result has (c.first_beyond.ensures numbers members) low refl refl
