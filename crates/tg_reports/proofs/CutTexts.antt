-- The report of a cut is read as its rules, they are carried out whole, and x can't come to have the right then.
use Rattle.std.proofs.Common.{◌≡◌, ℕ, ◌<◌, ◌≤◌, ◌^◌, List, [], ◌∷◌, length, Ok, codes, refl, sym, subst, ◌∙◌, arith}
use Rattle.std.specs.Prelude.{decimal}
use Rattle.std.specs.List.{AllByRecursion}
use Rattle.std.proofs.lemmas.Fmt.{decimal_nonempty}
use Rattle.tg_graph.specs.declared.rules.Rule.{Rule}
use Rattle.tg_graph.specs.Graphs.{ProtectionGraph}
use Rattle.tg_graph.specs.RuleWords.{IsRule}
use Rattle.tg_graph.specs.RuleLists.{AllAccepted, CanShare}
use Rattle.tg_names.proofs.Digits.{name-decimal}
use Rattle.tg_words.specs.Limits.{most_line_bytes, most_rules}
use Rattle.tg_words.specs.Words.{Word}
use Rattle.tg_words.specs.Spelling.{spaced}
use Rattle.tg_text.specs.RuleText.{rules_text}
use Rattle.tg_text.specs.RoundTrips.{lines_of_rules, on_lines}
use Rattle.tg_text.proofs.PlainWords.{IsPlainWord, word_from_test, name_word}
use Rattle.tg_text.proofs.PlainRules.{length-more}
use Rattle.tg_text_laws.proofs.RulesBack.{rules-read, skipped-line}
use Rattle.tg_cut_laws.proofs.AcceptedCuts.{cuts-accepted}
use Rattle.tg_cut_laws.proofs.OneCut.{cuts-short}
use Rattle.tg_reports.specs.Reports.{cut_report}
use Rattle.tg_reports.specs.ReportLaws.{CutsMakeItNo, CutTextsMakeItNo, CutsFit}
use Rattle.tg_reports.proofs.DerivedTexts.{are_rules, same_rules, all_played}
use Rattle.tg_reports.proofs.CutReports.{asked_read}

-- ---- the first line
abbrev header : ℕ → List Word
header n = codes "#" ∷ codes "cut" ∷ decimal n ∷ []

number_word : (n : ℕ) → n ≤ most_rules → IsPlainWord (decimal n)
number_word n h =
    let name = name_word (95 ∷ decimal n) (name-decimal n (omega (arith, h))) in
    record { some = decimal_nonempty n (omega (arith, h)); plain = name.plain.1 }

plain_header : (n : ℕ) → n ≤ most_rules → AllByRecursion IsPlainWord (header n)
plain_header n h = (word_from_test (codes "#") refl refl, (word_from_test (codes "cut") refl refl, (number_word n h, tt)))

short_header : (n : ℕ) → n ≤ most_rules → length (spaced (header n)) ≤ most_line_bytes
short_header n h =
    let within = (name-decimal n (omega (arith, h))).within in
    omega (arith, length-more (codes "#") (codes "cut") (decimal n ∷ []), length-more (codes "cut") (decimal n) [], within)

text_read : (rules : List Rule) → AllByRecursion IsRule rules → length rules ≤ most_rules → rules_text (cut_report rules).bytes ≡ Ok (on_lines 2 rules)
unfolding rules_text
text_read rules a l =
    skipped-line 1 [] (header (length rules)) (lines_of_rules rules) (plain_header (length rules) l) (short_header (length rules) l) refl
    ∙ rules-read 2 [] rules a (omega (arith, l))

pub cuts_make_no : CutsMakeItNo
cuts_make_no q cut well is = (cuts-accepted q.graph q.kept cut well is.least_cut.held, is.least_cut.no)

pub cut_texts_make_no : CutTextsMakeItNo
cut_texts_make_no q cut well few is =
    let accepted : AllAccepted q.graph cut = cuts-accepted q.graph q.kept cut well is.least_cut.held in
    let whole = all_played q.graph 2 cut accepted in
    record {
      lines = on_lines 2 cut;
      read = text_read cut (are_rules q.graph cut accepted) few;
      same = same_rules 2 cut;
      status = whole.status;
      no = subst (λ (g : ProtectionGraph). CanShare g q.right q.x q.y → ⊥) (sym whole.end) is.least_cut.no;
    }

pub cuts_fit : CutsFit
cuts_fit first right x y q cut asked is =
    let read = asked_read first right x y [] q asked in
    let few : length q.graph.vertices < 2 ^ 64 = omega (arith, read.small) in
    let short : length cut ≤ length q.graph.vertices = cuts-short q.graph q.right q.x q.y cut read.well few read.from read.to is.least_cut in
    omega (arith, short, read.small)
