-- What the reports' definitions come to.
use Rattle.std.specs.Prelude.{◌≡◌, Bool, true, false, ◌<◌, ◌≤◌, ◌⊎◌, ◌↔◌, IsTrue, ℕ, List, [], ◌∷◌, ◌++◌, length, map, filter, take, slice_get, Some, MatchOption, Result, Ok, Err}
use Rattle.std.specs.List.{flat_map, list_any, AllByRecursion}
use Rattle.tg_graph.specs.declared.rules.Refusal.{Refusal}
use Rattle.tg_names.specs.declared.right_sets.Right.{Right}
use Rattle.tg_graph.specs.declared.rules.Rule.{Rule}
use Rattle.tg_names.specs.Sets.{member, rights_where}
use Rattle.tg_names.specs.Letters.{set_of_right}
use Rattle.tg_names.specs.Names.{Name, same_name}
use Rattle.tg_graph.specs.Graphs.{ProtectionGraph, has_vertex, WellFormed}
use Rattle.tg_graph.specs.Limits.{most_vertices}
use Rattle.tg_graph.specs.Rules.{refusal_of}
use Rattle.tg_graph.specs.RuleLists.{AllAccepted, after_all, CanShare}
use Rattle.tg_graph.specs.Additions.{Leads}
use Rattle.tg_text.specs.declared.rule_text.RuleLine.{RuleLine}
use Rattle.tg_words.specs.Limits.{most_rules}
use Rattle.tg_text.specs.RuleText.{rules_text}
use Rattle.tg_text.specs.PolicyText.{has_claim}
use Rattle.tg_text.specs.Canonical.{canonical_text, in_name_order}
use Rattle.tg_words.specs.Spelling.{line_of}
use Rattle.tg_islands.specs.Sharing.{InOneIsland}
use Rattle.tg_sharing.specs.Derivations.{IsDerivation}
use Rattle.tg_islands.specs.Moves.{only}
use Rattle.tg_sharing.specs.SetDerivations.{IsDerivationOfAll}
use Rattle.tg_cuts.specs.Cuts.{IsTheCut}
use Rattle.tg_inputs.specs.Calls.{CommandWords, Case, Check, Apply, Islands, Share, Derive, Table, Run, Who, Reach, Verify, Cut}
use Rattle.tg_inputs.specs.Readings.{Question, ReportText, CutQuestion, PolicyOver, graph_in, question_in, cut_in, policy_in}
use Rattle.tg_policies.specs.Derived.{derivation_report}
use Rattle.tg_policies.specs.Policies.{no_members, AllHold, IsKept}
use Rattle.tg_reports.specs.Reports.{cut_report, check_report, AreIslandLines, TellsSharing, AreWhoLines, who_text, AreReachLines, reach_text, IsReport}
use Rattle.tg_inputs.specs.Replies.{Played, played}

abbrev pub rules_of : List RuleLine → List Rule
rules_of lines = map (λ line. line.rule) lines

-- The first rules, so many as the number says, are accepted one after another and lead to the end; the next one, if there is one, is refused there.
pub record StopsAtRefusal (g : ProtectionGraph) (rules : List Rule) (p : Played) : Type 0 where
  pub accepted : ℕ
  pub leads : Leads g (take accepted rules) p.end
  pub next : MatchOption (slice_get rules accepted) (p.status ≡ 0) (λ rule. (refusal : Refusal) × (refusal_of p.end rule ≡ Some refusal) × (p.status ≡ 1))

-- rules are carried out up to the first that is refused
abbrev pub RulesStopAtRefusal : Type 0
RulesStopAtRefusal = (g : ProtectionGraph) (lines : List RuleLine) → StopsAtRefusal g (rules_of lines) (played g lines)

-- The report is a text of these rules. On the same graph they are carried out whole, and x has each of the rights then.
pub record GivesTheRights (q : Question) (rules : List Rule) : Type 0 where
  pub lines : List RuleLine
  pub read : rules_text (derivation_report rules).bytes ≡ Ok lines
  pub same : rules_of lines ≡ rules
  pub status : (played q.graph lines).status ≡ 0
  pub gives : (right : Right) → IsTrue (member q.rights right) → IsTrue ((played q.graph lines).end.holds q.x right q.y)

-- a derivation that is printed can be applied, on a graph that a text may hold
abbrev pub DerivationsGiveTheRights : Type 0
DerivationsGiveTheRights = (q : Question) (rules : List Rule) → length q.graph.vertices ≤ most_vertices → IsDerivationOfAll q.graph q.rights q.x q.y rules → GivesTheRights q rules

-- and so it can be wherever the question was read
abbrev pub ReadDerivationsGiveTheRights : Type 0
ReadDerivationsGiveTheRights = (first rights x y : List ℕ) (q : Question) (rules : List Rule) → question_in first rights x y ≡ Ok q → IsDerivationOfAll q.graph q.rights q.x q.y rules → GivesTheRights q rules

-- what stands below a line of a policy can be applied, and gives the right that breaks the line
abbrev pub DerivationsBelowGiveTheRight : Type 0
DerivationsBelowGiveTheRight = (g : ProtectionGraph) (right : Right) (x y : Name) (rules : List Rule) → length g.vertices ≤ most_vertices → IsDerivation g right x y rules → GivesTheRights (record { graph = g; rights = only right; x = x; y = y }) rules

-- and so it can be wherever graph and policy were read
abbrev pub ReadDerivationsBelowGiveTheRight : Type 0
ReadDerivationsBelowGiveTheRight = (first second : List ℕ) (p : PolicyOver) (right : Right) (x y : Name) (rules : List Rule) → policy_in first second ≡ Ok p → IsDerivation p.graph right x y rules → GivesTheRights (record { graph = p.graph; rights = only right; x = x; y = y }) rules

-- a cut, however long, is accepted rule by rule, and then the answer is no
abbrev pub CutsMakeItNo : Type 0
CutsMakeItNo = (q : CutQuestion) (cut : List Rule) → WellFormed q.graph → IsTheCut q.graph q.right q.x q.y q.kept cut → AllAccepted q.graph cut × (CanShare (after_all q.graph cut) q.right q.x q.y → ⊥)

-- The texts have a policy over a graph. One of its lines states something, and each holds by the groups that the lines above it made.
pub record KeepsItsPolicy (first second : List ℕ) : Type 0 where
  pub policy : PolicyOver
  pub read : policy_in first second ≡ Ok policy
  pub claim : has_claim policy.lines ≡ true
  pub holds : AllHold policy.graph no_members policy.lines

-- a report of `verify` ends with `kept` for such texts alone
abbrev pub KeptPoliciesHold : Type 0
KeptPoliciesHold = (why : Bool) (first second : List ℕ) (report : ReportText) → IsReport (Verify why) first second report → IsKept report → KeepsItsPolicy first second

-- The report is a text of these rules. On the same graph they are carried out whole, and x can't come to have the right then.
pub record MakesItNo (q : CutQuestion) (cut : List Rule) : Type 0 where
  pub lines : List RuleLine
  pub read : rules_text (cut_report cut).bytes ≡ Ok lines
  pub same : rules_of lines ≡ cut
  pub status : (played q.graph lines).status ≡ 0
  pub no : CanShare (played q.graph lines).end q.right q.x q.y → ⊥

-- a cut that is printed can be applied, if it is no longer than a text of rules may be, and then it makes the answer no
abbrev pub CutTextsMakeItNo : Type 0
CutTextsMakeItNo = (q : CutQuestion) (cut : List Rule) → WellFormed q.graph → length cut ≤ most_rules → IsTheCut q.graph q.right q.x q.y q.kept cut → MakesItNo q cut

-- where no edge is kept it is never longer
abbrev pub CutsFit : Type 0
CutsFit = (first right x y : List ℕ) (q : CutQuestion) (cut : List Rule) → cut_in first right x y [] ≡ Ok q → IsTheCut q.graph q.right q.x q.y [] cut → length cut ≤ most_rules

-- the canonical text of a graph that a text may hold is checked as it stands
abbrev pub CanonicalTextsStay : Type 0
CanonicalTextsStay = (g : ProtectionGraph) → WellFormed g → length g.vertices ≤ most_vertices → check_report (canonical_text g) ≡ Ok (record { bytes = canonical_text g; status = 0 })

-- rules were found for a question that was asked, and the report has them
abbrev pub FindsRules : Result Question ReportText → ReportText → Type 0
FindsRules (Ok q) report = (rules : List Rule) × IsDerivationOfAll q.graph q.rights q.x q.y rules × (report ≡ derivation_report rules)
FindsRules (Err fault) report = ⊥

-- rules that were found for some right over some vertex stand in the report
abbrev pub HasRules : Result ProtectionGraph ReportText → ReportText → Type 0
HasRules (Ok g) report =
    (right : Right) × (x : Name) × (y : Name) × (rules : List Rule) × (before : List ℕ) × (behind : List ℕ) × IsDerivation g right x y rules × (report.bytes ≡ before ++ (derivation_report rules).bytes ++ behind)
HasRules (Err fault) report = ⊥

-- the report is one of rules that were found, or has such rules below a line; that its verdicts are the same all the same, `VerdictsAreOne` says
abbrev pub GivesRules : CommandWords → List ℕ → ReportText → Type 0
GivesRules (Derive rights x y) first report = FindsRules (question_in first rights x y) report
GivesRules Case first report = ⊥
GivesRules Check first report = ⊥
GivesRules Apply first report = ⊥
GivesRules Islands first report = ⊥
GivesRules (Share rights x y) first report = ⊥
GivesRules (Table right workers) first report = ⊥
GivesRules Run first report = ⊥
GivesRules (Who rights y) first report = ⊥
GivesRules (Reach x) first report = ⊥
GivesRules (Verify true) first report = HasRules (graph_in first) report
GivesRules (Verify false) first report = ⊥
GivesRules (Cut right x y kept) first report = ⊥

-- a command has one report for its texts, but that other rules may be found
abbrev pub ThereIsOneReport : Type 0
ThereIsOneReport = (command : CommandWords) (first second : List ℕ) (a b : ReportText) → IsReport command first second a → IsReport command first second b → (a ≡ b) ⊎ (GivesRules command first a × GivesRules command first b)

-- the names are one island whole: what lies in one island with one of them is one of them
pub record IsIsland (g : ProtectionGraph) (names : List Name) : Type 0 where
  pub some : 0 < length names
  pub whole : (u v : Name) → IsTrue (list_any (same_name u) names) → IsTrue (list_any (same_name v) names) ↔ InOneIsland g u v

-- each is an island, and each vertex is in one of them, once
pub record AreIslandsOf (g : ProtectionGraph) (islands : List (List Name)) : Type 0 where
  pub each : AllByRecursion (IsIsland g) islands
  pub once : (v : Name) → IsTrue (has_vertex g v) → filter (same_name v) (flat_map (λ names. names) islands) ≡ v ∷ []

-- what is printed for the islands of a graph is a line for each of them
abbrev pub IslandsAreLines : Type 0
IslandsAreLines = (g : ProtectionGraph) (report : ReportText) → AreIslandLines g report → (islands : List (List Name)) × AreIslandsOf g islands × (report ≡ record { bytes = flat_map line_of islands; status = 0 })

-- the lines of `who` for one right are those of the vertices with a 1 in the table's column of y
abbrev pub WhoIsAColumn : Type 0
WhoIsAColumn = (g : ProtectionGraph) (right : Right) (y : Name) (shares : Name → Name → Bool) (report : ReportText) → has_vertex g y ≡ true → TellsSharing g right shares → AreWhoLines (record { graph = g; rights = set_of_right (Some right); y = y }) report → report ≡ record { bytes = who_text (λ x. shares x y) (in_name_order g.vertices); status = 0 }

-- the lines of `reach` have for each vertex the rights with a 1 in the table's row of x
abbrev pub ReachIsARow : Type 0
ReachIsARow = (g : ProtectionGraph) (x : Name) (shares : Right → Name → Name → Bool) (report : ReportText) → has_vertex g x ≡ true → ((right : Right) → TellsSharing g right (shares right)) → AreReachLines (record { graph = g; x = x }) report → report ≡ record { bytes = reach_text (λ y. rights_where (λ right. shares right x y)) (in_name_order g.vertices); status = 0 }
