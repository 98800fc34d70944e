-- Texts with the same lines have the same report.
use Rattle.std.proofs.Common.{◌≡◌, ℕ, List, [], ◌∙◌, ap}
use Rattle.std.specs.Prelude.{Result, Ok, codes}
use Rattle.tg_words.specs.Lines.{lines_of}
use Rattle.tg_words.specs.declared.faults.TextKind.{TextKind}
use Rattle.tg_text.specs.declared.rule_text.RuleLine.{RuleLine}
use Rattle.tg_graph.specs.Graphs.{ProtectionGraph}
use Rattle.tg_words.specs.Reading.{◌>>=◌, after_lines}
use Rattle.tg_text.specs.GraphText.{graph_text, graph_item, nothing_read}
use Rattle.tg_text.specs.RuleText.{rules_text, rule_item}
use Rattle.tg_inputs.specs.Readings.{from_text, graph_in, rules_in}
use Rattle.tg_reports.specs.Reports.{apply_report, played_report}
use Rattle.tg_inputs.specs.Replies.{played}

-- texts with the same lines have the same report
graph_by_lines : (a b : List ℕ) → lines_of a ≡ lines_of b → graph_text a ≡ graph_text b
unfolding graph_text
graph_by_lines a b e = ap (λ (ls : List (List ℕ)). after_lines (λ n. graph_item) 1 nothing_read ls >>= λ made. Ok made.1) e

rules_by_lines : (a b : List ℕ) → lines_of a ≡ lines_of b → rules_text a ≡ rules_text b
unfolding rules_text
rules_by_lines a b e = ap (λ (ls : List (List ℕ)). after_lines rule_item 1 [] ls) e

pub report_by_lines : (first first' second second' : List ℕ) → lines_of first ≡ lines_of first' → lines_of second ≡ lines_of second' → apply_report first second ≡ apply_report first' second'
report_by_lines first first' second second' e k =
    ap (λ (g : Result ProtectionGraph (ℕ × TextKind)). from_text (codes "graph") g >>= λ g. rules_in second >>= λ rules. Ok (played_report (played g rules))) (graph_by_lines first first' e)
    ∙ ap (λ (r : Result (List RuleLine) (ℕ × TextKind)). graph_in first' >>= λ g. from_text (codes "rules") r >>= λ rules. Ok (played_report (played g rules))) (rules_by_lines second second' k)
