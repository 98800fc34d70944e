-- Rules are carried out up to the first that is refused.
use Rattle.std.proofs.Common.{◌≡◌, suc, List, [], ◌∷◌, Option, Some, None, refl}
use Rattle.tg_graph.specs.declared.rules.Refusal.{Refusal}
use Rattle.tg_graph.specs.Graphs.{ProtectionGraph}
use Rattle.tg_graph.specs.Rules.{refusal_of, after}
use Rattle.tg_text.specs.declared.rule_text.RuleLine.{RuleLine}
use Rattle.tg_inputs.specs.Replies.{played, played_first}
use Rattle.tg_reports.specs.ReportLaws.{rules_of, StopsAtRefusal, RulesStopAtRefusal}

first_rule : (g : ProtectionGraph) (r : RuleLine) (rs : List RuleLine) (o : Option Refusal) → refusal_of g r.rule ≡ o → StopsAtRefusal (after g r.rule) (rules_of rs) (played (after g r.rule) rs) → StopsAtRefusal g (rules_of (r ∷ rs)) (played_first g r.line o (played (after g r.rule) rs))
first_rule g r rs None e rest = record { accepted = suc rest.accepted; leads = (e, rest.leads); next = rest.next }
first_rule g r rs (Some refusal) e rest = record { accepted = 0; leads = refl; next = (refusal, e, refl) }

pub rules_stop : RulesStopAtRefusal
rules_stop g [] = record { accepted = 0; leads = refl; next = refl }
rules_stop g (r ∷ rs) = first_rule g r rs (refusal_of g r.rule) refl (rules_stop (after g r.rule) rs)
