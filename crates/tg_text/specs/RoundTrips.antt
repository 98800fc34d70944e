-- What is written is read as it was.
use Rattle.std.specs.Prelude.{◌≡◌, ◌≤◌, ℕ, ◌+◌, List, [], ◌∷◌, length, Ok}
use Rattle.std.specs.List.{AllByRecursion, flat_map}
use Rattle.tg_graph.specs.declared.rules.Rule.{Rule}
use Rattle.tg_graph.specs.Graphs.{ProtectionGraph, WellFormed}
use Rattle.tg_graph.specs.RuleWords.{IsRule}
use Rattle.tg_text.specs.declared.rule_text.RuleLine.{RuleLine}
use Rattle.tg_text.specs.RuleText.{rule_of_line, rules_text}
use Rattle.tg_text.specs.GraphText.{graph_text}
use Rattle.tg_words.specs.Spelling.{rule_words, rule_text, line_of}
use Rattle.tg_text.specs.Canonical.{canonical_text, in_name_order}
use Rattle.tg_graph.specs.Limits.{most_vertices}
use Rattle.tg_words.specs.Limits.{most_rules}

-- the line of a rule writes that rule
abbrev pub RulesAreReadAsWritten : Type 0
RulesAreReadAsWritten = (rule : Rule) → IsRule rule → rule_of_line (rule_text rule) ≡ Ok rule

-- a line for each rule
abbrev pub lines_of_rules : List Rule → List ℕ
lines_of_rules rules = flat_map (λ rule. line_of (rule_words rule)) rules

-- the rules, the first of them on the line with the number n
abbrev pub on_lines : ℕ → List Rule → List RuleLine
on_lines n [] = []
on_lines n (rule ∷ rules) = record { line = n; rule = rule } ∷ on_lines (n + 1) rules

-- Lines of rules write those rules, if they are no more than a text may have.
abbrev pub ListsAreReadAsWritten : Type 0
ListsAreReadAsWritten = (rules : List Rule) → AllByRecursion IsRule rules → length rules ≤ most_rules → rules_text (lines_of_rules rules) ≡ Ok (on_lines 1 rules)

-- the graph with its vertices in name order
abbrev pub in_order : ProtectionGraph → ProtectionGraph
in_order g = record { vertices = in_name_order g.vertices; holds = g.holds }

-- The canonical text of a graph writes that graph, if it has no more vertices than a text may name.
abbrev pub GraphsAreReadAsWritten : Type 0
GraphsAreReadAsWritten = (g : ProtectionGraph) → WellFormed g → length g.vertices ≤ most_vertices → graph_text (canonical_text g) ≡ Ok (in_order g)
