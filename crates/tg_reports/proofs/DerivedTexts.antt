-- The report of a derivation is read as its rules, and they are carried out whole.
use Rattle.std.proofs.Common.{◌≡◌, ℕ, ◌+◌, ◌*◌, ◌≤◌, List, [], ◌∷◌, length, Result, Ok, Err, codes, refl, sym, ap, subst, ◌∙◌, arith}
use Rattle.std.specs.Prelude.{decimal, IsTrue}
use Rattle.std.specs.List.{AllByRecursion}
use Rattle.std.proofs.lemmas.Fmt.{decimal_nonempty}
use Rattle.tg_graph.specs.declared.rules.Rule.{Rule}
use Rattle.tg_graph.specs.Graphs.{ProtectionGraph}
use Rattle.tg_graph.specs.Limits.{most_vertices}
use Rattle.tg_graph.specs.Rules.{after}
use Rattle.tg_graph.specs.RuleWords.{IsRule}
use Rattle.tg_graph.specs.RuleLists.{AllAccepted, after_all}
use Rattle.tg_names.proofs.Digits.{name-decimal}
use Rattle.tg_words.specs.declared.faults.TextKind.{TextKind}
use Rattle.tg_text.specs.GraphText.{graph_text}
use Rattle.tg_words.specs.Limits.{most_line_bytes}
use Rattle.tg_words.specs.Words.{Word}
use Rattle.tg_words.specs.Spelling.{spaced}
use Rattle.tg_text.specs.RuleText.{rules_text}
use Rattle.tg_text.specs.RoundTrips.{lines_of_rules, on_lines}
use Rattle.tg_text.proofs.PlainWords.{IsPlainWord, word_from_test, name_word}
use Rattle.tg_text.proofs.PlainRules.{length-more}
use Rattle.tg_text_laws.proofs.RulesBack.{rules-read, skipped-line}
use Rattle.tg_text.proofs.SmallGraphs.{graph_is_small}
use Rattle.tg_text.proofs.Steps.{bind_ok}
use Rattle.tg_islands.specs.Moves.{only}
use Rattle.tg_sharing.proofs.Parts.{derivations_of_all_are_short, one_right_alone}
use Rattle.tg_inputs.specs.Readings.{Question, PolicyOver, from_text, graph_in, rights_in, name_in, vertex_in, question_in, policy_lines_in, policy_in}
use Rattle.tg_policies.specs.Derived.{derivation_report}
use Rattle.tg_inputs.specs.Replies.{Played, played_first, played}
use Rattle.tg_reports.specs.ReportLaws.{rules_of, DerivationsGiveTheRights, ReadDerivationsGiveTheRights, DerivationsBelowGiveTheRight, ReadDerivationsBelowGiveTheRight}

pub are_rules : (g : ProtectionGraph) (rules : List Rule) → AllAccepted g rules → AllByRecursion IsRule rules
are_rules g [] a = tt
are_rules g (rule ∷ rules) a = (a.0, are_rules (after g rule) rules a.2)

pub same_rules : (n : ℕ) (rules : List Rule) → rules_of (on_lines n rules) ≡ rules
same_rules n [] = refl
same_rules n (rule ∷ rules) = ap (λ rs. rule ∷ rs) (same_rules (n + 1) rules)

-- rules that are all accepted are carried out whole
pub record IsWhole (g : ProtectionGraph) (rules : List Rule) (p : Played) : Type 0 where
  pub status : p.status ≡ 0
  pub end : p.end ≡ after_all g rules

pub all_played : (g : ProtectionGraph) (n : ℕ) (rules : List Rule) → AllAccepted g rules → IsWhole g rules (played g (on_lines n rules))
all_played g n [] a = record { status = refl; end = refl }
all_played g n (rule ∷ rules) a =
    let rest = all_played (after g rule) (n + 1) rules a.2 in
    let first = ap (λ o. played_first g n o (played (after g rule) (on_lines (n + 1) rules))) a.1 in
    record { status = ap (λ (p : Played). p.status) first ∙ rest.status; end = ap (λ (p : Played). p.end) first ∙ rest.end }

-- ---- the first line
abbrev header : ℕ → List Word
header n = codes "#" ∷ codes "yes" ∷ decimal n ∷ []

number_word : (n : ℕ) → n ≤ 28 * most_vertices → IsPlainWord (decimal n)
number_word n h =
    let name = name_word (95 ∷ decimal n) (name-decimal n (omega (arith, h))) in
    record { some = decimal_nonempty n (omega (arith, h)); plain = name.plain.1 }

plain_header : (n : ℕ) → n ≤ 28 * most_vertices → AllByRecursion IsPlainWord (header n)
plain_header n h = (word_from_test (codes "#") refl refl, (word_from_test (codes "yes") refl refl, (number_word n h, tt)))

short_header : (n : ℕ) → n ≤ 28 * most_vertices → length (spaced (header n)) ≤ most_line_bytes
short_header n h =
    let within = (name-decimal n (omega (arith, h))).within in
    omega (arith, length-more (codes "#") (codes "yes") (decimal n ∷ []), length-more (codes "yes") (decimal n) [], within)

text_read : (rules : List Rule) → AllByRecursion IsRule rules → length rules ≤ 28 * most_vertices → rules_text (derivation_report rules).bytes ≡ Ok (on_lines 2 rules)
unfolding rules_text
text_read rules a l =
    skipped-line 1 [] (header (length rules)) (lines_of_rules rules) (plain_header (length rules) l) (short_header (length rules) l) refl
    ∙ rules-read 2 [] rules a (omega (arith, l))

pub derivations_give : DerivationsGiveTheRights
derivations_give q rules small derived =
    let few : length rules ≤ 28 * most_vertices = omega (arith, small, (derivations_of_all_are_short q.graph q.rights q.x q.y rules derived).1) in
    let whole = all_played q.graph 2 rules derived.accepted in
    record {
      lines = on_lines 2 rules;
      read = text_read rules (are_rules q.graph rules derived.accepted) few;
      same = same_rules 2 rules;
      status = whole.status;
      gives = λ right among. subst (λ (g : ProtectionGraph). IsTrue (g.holds q.x right q.y)) (sym whole.end) (derived.gives right among);
    }

-- ---- the graph of a question that was read
pub from_read : {A : Type 0} (text : List ℕ) (r : Result A (ℕ × TextKind)) (x : A) → from_text text r ≡ Ok x → r ≡ Ok x
from_read text (Ok y) x e = cc
from_read text (Err fault) x e = absurd cc

asked_small : (first rights x y : List ℕ) (q : Question) → question_in first rights x y ≡ Ok q → length q.graph.vertices ≤ most_vertices
asked_small first rights x y q e =
    let g = bind_ok (graph_in first) _ q e in
    let s = bind_ok (rights_in rights) _ q g.2 in
    let a = bind_ok (name_in x) _ q s.2 in
    let b = bind_ok (name_in y) _ q a.2 in
    let u = bind_ok (vertex_in g.0 a.0) _ q b.2 in
    let v = bind_ok (vertex_in g.0 b.0) _ q u.2 in
    let whole : record { graph = g.0; rights = s.0; x = u.0; y = v.0 } ≡ q = cc in
    subst (λ (p : Question). length p.graph.vertices ≤ most_vertices) whole (graph_is_small first g.0 (from_read (codes "graph") (graph_text first) g.0 g.1))

pub derivations_below_give : DerivationsBelowGiveTheRight
derivations_below_give g right x y rules small derived =
    derivations_give (record { graph = g; rights = only right; x = x; y = y }) rules small ((one_right_alone g right x y rules).1 derived)

policy_small : (first second : List ℕ) (p : PolicyOver) → policy_in first second ≡ Ok p → length p.graph.vertices ≤ most_vertices
policy_small first second p e =
    let g = bind_ok (graph_in first) _ p e in
    let l = bind_ok (policy_lines_in g.0 second) _ p g.2 in
    let whole : record { graph = g.0; lines = l.0 } ≡ p = cc in
    subst (λ (q : PolicyOver). length q.graph.vertices ≤ most_vertices) whole (graph_is_small first g.0 (from_read (codes "graph") (graph_text first) g.0 g.1))

pub read_derivations_below_give : ReadDerivationsBelowGiveTheRight
read_derivations_below_give first second p right x y rules read derived = derivations_below_give p.graph right x y rules (policy_small first second p read) derived

pub read_derivations_give : ReadDerivationsGiveTheRights
read_derivations_give first rights x y q rules read derived = derivations_give q rules (asked_small first rights x y q read) derived
