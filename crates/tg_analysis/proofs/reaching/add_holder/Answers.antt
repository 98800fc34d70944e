use Rattle.std.proofs.Common.{sym, ◌∙◌}
use Rattle.tg_analysis.proofs.Reached.{hold-more, hold-other}
use Rattle.tg_analysis.proofs.reaching.add_holder.Goals as goal

pub returns-in-Some : goal.returns-in-Some
returns-in-Some c =
    hold-more c.args.graph.now c.args.islands.now c.args.y c.args.position c.args.held.now.items c.requires c.in-Some.number c.rights_near.result c.gain.new.sets.items (sym c.of.ensures ∙ c.in-Some.is) c.rights_near.ensures.rights c.gain.ensures

pub returns-in_default : goal.returns-in_default
returns-in_default c =
    hold-other c.args.graph.now c.args.islands.now c.args.y c.args.position c.args.held.now.items c.requires (sym c.of.ensures ∙ c.in_default.is)
