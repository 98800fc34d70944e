use Rattle.std.proofs.Common.{sym, ◌∙◌, refl}
use Rattle.tg_analysis.proofs.Reached.{label-more, label-none}
use Rattle.tg_islands.proofs.RowEnds.{label-named}
use Rattle.tg_analysis.proofs.reaching.add_edge.Goals as goal

pub gain-requires-clause-rights : goal.gain-requires-clause-rights
gain-requires-clause-rights c =
    label-named c.args.graph.now c.requires.graph c.args.position c.args.place c.in-Some.target c.in-Some.label (sym c.end_in.ensures ∙ c.in-Some.is)

pub returns-in-Some : goal.returns-in-Some
returns-in-Some c =
    label-more c.args.graph.now c.args.position c.args.place c.args.sets.now.items c.gain.new.sets.items c.in-Some.target c.in-Some.label (sym c.end_in.ensures ∙ c.in-Some.is) c.gain.ensures

pub returns-in_default : goal.returns-in_default
returns-in_default c =
    label-none c.args.graph.now c.args.position c.args.place c.args.sets.now.items c.args.sets.now.items c.requires.sets (sym c.end_in.ensures ∙ c.in_default.is) refl
