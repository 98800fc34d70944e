use Rattle.tg_names.proofs.Sets.{contains-members, members-contains}
use Rattle.tg_names.proofs.right_sets.Rights.contains.Goals as goal

pub returns : goal.returns
returns c = (contains-members c.args.self c.args.other c.contains.result (c.contains.ensures tt), members-contains c.args.self c.args.other c.contains.result c.requires.other_named (c.contains.ensures tt))
