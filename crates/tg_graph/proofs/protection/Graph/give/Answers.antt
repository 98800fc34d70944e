use Rattle.std.proofs.Common.{◌∙◌, sym, ap, subst}
use Rattle.tg_rows.specs.Rows.{IsGraph, is_known}
use Rattle.tg_graph.specs.GraphOf.{graph_of}
use Rattle.tg_graph.specs.Rules.{with_rights}
use Rattle.tg_graph.proofs.Graphs.{alters, graph-adds, is_graph-adds}
use Rattle.tg_graph.proofs.protection.Graph.give.Goals as goal

pub invariant_of-self : goal.invariant_of-self
invariant_of-self c = subst IsGraph (sym c.in_err-widen.ensures.err) c.self.invariant

pub invariant_of-self-2 : goal.invariant_of-self-2
invariant_of-self-2 c =
    is_graph-adds c.self.inside.rows.entries c.widen.new.rows.entries c.args.x c.args.y c.args.rights (alters c.in_ok-widen.ensures.widened) c.self.invariant (ap (λ es. is_known es c.args.y) c.self.view_is ∙ c.requires.target)

pub returns-clause-given : goal.returns-clause-given
returns-clause-given c =
    graph-adds c.self.inside.rows.entries c.widen.new.rows.entries c.args.x c.args.y c.args.rights (alters c.in_ok-widen.ensures.widened)
    ∙ ap (λ es. with_rights (graph_of es) c.args.x c.args.y c.args.rights) c.self.view_is
