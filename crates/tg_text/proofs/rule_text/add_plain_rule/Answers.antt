use Rattle.std.proofs.Common.{◌≡◌, ◌+◌, false, nat_le, sym, subst}
use Rattle.tg_words.specs.Limits.{most_rules}
use Rattle.tg_words.specs.Reading.{MakesFirst}
use Rattle.tg_text.specs.RuleText.{counted_item}
use Rattle.tg_text.proofs.PlainRules.{rule_first}
use Rattle.tg_text.proofs.rule_text.add_plain_rule.Goals as goal

pub returns-clause-made : goal.returns-clause-made
returns-clause-made g c =
    let with_rule = g.S.RuleSink.with_rule in
    let made = g.S.RuleSink.made c.args.rules.now.sink in
    let count = c.args.rules.now.count in
    let found = c.in-Some.found in
    let room : nat_le most_rules count ≡ false = sym c.if-is_full.ensures in
    let first = rule_first with_rule c.args.line made count found.0 found.1.now c.in-Some.ensures.rule c.in-Some.ensures.letters c.in-Some.ensures.few room c.args.text.now found.2.now c.in-Some.ensures.line in
    subst (λ more. MakesFirst (counted_item with_rule c.args.line) (made, count) c.args.text.now (more, count + 1) found.2.now) (sym c.in-Ok.ensures.made) first
