use Rattle.std.proofs.Common.{◌≡◌, ◌++◌, take}
use Rattle.tg_text.specs.RoundTrips.{lines_of_rules}
use Rattle.tg_policies.proofs.rule_lines.add_rules.Given as goal

abbrev pub invariant-loop-rule : goal.invariant-loop-rule
invariant-loop-rule l = l.text.items ≡ l.fn.text.items ++ lines_of_rules (take l.rule-index l.rules)
