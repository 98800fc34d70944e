use Rattle.std.proofs.Common.{◌∙◌}
use Rattle.tg_names.proofs.Sets.{contains-one}
use Rattle.tg_names.proofs.right_sets.Rights.has.Goals as goal

pub returns : goal.returns
returns c = c.contains.ensures tt ∙ contains-one c.args.self c.of.result c.args.right c.of.ensures.bit
