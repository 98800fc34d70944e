use Rattle.std.proofs.Common.{sym, ap, ◌∙◌}
use Rattle.std.specs.Prelude.{codes}
use Rattle.tg_graph.specs.GraphOf.{graph_of}
use Rattle.tg_text.specs.RuleText.{rules_make}
use Rattle.tg_inputs.specs.Readings.{from_text}
use Rattle.tg_inputs.specs.Replies.{Played}
use Rattle.tg_inputs.specs.Outcomes.{played_on}
use Rattle.tg_inputs.proofs.RulesPlayed.{rules-played}
use Rattle.tg_inputs.proofs.inputs.rules_applied.Goals as goal

pub returns-in-Ok : goal.returns-in-Ok
returns-in-Ok c =
    let text = c.args.text.now in
    sym (rules-played (graph_of c.args.graph) text)
    ∙ ap (from_text (codes "rules")) (ap (λ (start : Played). rules_make played_on start text) (sym c.none.ensures) ∙ c.in-Ok.ensures.value)
