-- A derivation as a text.
use Rattle.std.specs.Prelude.{List, [], ◌∷◌, ◌++◌, length, codes, decimal}
use Rattle.tg_graph.specs.declared.rules.Rule.{Rule}
use Rattle.tg_words.specs.Spelling.{line_of}
use Rattle.tg_text.specs.RoundTrips.{lines_of_rules}
use Rattle.tg_inputs.specs.Readings.{ReportText}

-- a list of rules as a text of rules
abbrev pub derivation_report : List Rule → ReportText
derivation_report rules = record { bytes = line_of (codes "#" ∷ codes "yes" ∷ decimal (length rules) ∷ []) ++ lines_of_rules rules; status = 0 }
