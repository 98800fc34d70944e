use Rattle.std.proofs.Common.{ap, ◌∙◌, length, Ok}
use Rattle.tg_words.specs.Lines.{lines_of}
use Rattle.tg_words.specs.Reading.{◌>>=◌}
use Rattle.tg_text.proofs.RuleSinks.{rules-made, fault-read}
use Rattle.tg_text.proofs.rule_text.read_rules_into.Goals as goal

pub returns-in-Ok-clause-value : goal.returns-in-Ok-clause-value
returns-in-Ok-clause-value g c =
    rules-made g.S.RuleSink.with_rule (g.S.RuleSink.made c.args.sink) c.args.text.now
    ∙ ap (λ r. r >>= λ made. Ok made.0) c.in-Ok.ensures.made.1

pub returns-in-Err-clause-value : goal.returns-in-Err-clause-value
returns-in-Err-clause-value g c =
    fault-read g.S.RuleSink.with_rule (g.S.RuleSink.made c.args.sink) g.S.RuleSink.made c.args.text.now (length (lines_of c.args.text.now)) c.in-Err.fault (g.S.RuleSink.made c.read_lines.new.items.sink, c.read_lines.new.items.count) c.in-Err.ensures.made
