use Rattle.std.proofs.Common.{sym, ◌∙◌}
use Rattle.tg_islands.proofs.Linked.{links-joined, links-skip}
use Rattle.tg_islands.proofs.links.Links.add_edge.Goals as goal

pub returns-in_ok-join : goal.returns-in_ok-join
returns-in_ok-join c =
    links-joined c.args.graph.now c.args.position c.args.place c.args.self.now c.join.new.self c.in-Some.end c.requires.so_far (sym c.linked_end.ensures ∙ c.in-Some.is) c.in_ok-join.ensures

pub returns-in_default : goal.returns-in_default
returns-in_default c =
    links-skip c.args.graph.now c.args.position c.args.place c.args.self.now c.requires.so_far (sym c.linked_end.ensures ∙ c.in_default.is)
