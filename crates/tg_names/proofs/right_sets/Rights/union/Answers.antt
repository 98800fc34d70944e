use Rattle.tg_names.proofs.Sets.{member-union, named-union}
use Rattle.tg_names.proofs.right_sets.Rights.union.Goals as goal

pub returns-clause-members : goal.returns-clause-members
returns-clause-members c = member-union c.args.self c.args.other c.union.result (c.union.ensures tt)

pub returns-clause-named : goal.returns-clause-named
returns-clause-named c = named-union c.args.self c.args.other c.union.result (c.union.ensures tt) c.requires.named c.requires.other_named
