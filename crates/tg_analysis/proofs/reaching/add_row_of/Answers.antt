use Rattle.std.proofs.Common.{sym, ◌∙◌, true≢false}
use Rattle.tg_analysis.proofs.Reached.{reach-more, reach-other}
use Rattle.tg_analysis.proofs.reaching.add_row_of.Goals as goal

pub returns-then-is_of : goal.returns-then-is_of
returns-then-is_of c =
    reach-more c.args.graph.now c.args.islands.now c.args.number c.args.position c.args.sets.now.items c.requires.so_far c.add_row.new.sets.items (c.is_of.ensures.0 c.if-is_of.true) c.add_row.ensures

pub returns-else-is_of : goal.returns-else-is_of
returns-else-is_of c =
    reach-other c.args.graph.now c.args.islands.now c.args.number c.args.position c.args.sets.now.items c.requires.so_far (λ of. true≢false (sym (c.is_of.ensures.1 of) ∙ c.if-is_of.false))
