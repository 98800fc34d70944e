use Rattle.std.proofs.Common.{None, [], ap, ◌∙◌}
use Rattle.tg_graph.specs.GraphOf.{graph_of}
use Rattle.tg_names.proofs.Sets.{member-nothing}
use Rattle.tg_text.proofs.graph_text.GraphItems.nothing.Goals as goal

pub returns : goal.returns
returns c = λ i. (None, (c.over.ensures ∙ ap graph_of c.new.ensures ∙ (λ j. record { vertices = []; holds = λ u right v. member-nothing right j })) i)
