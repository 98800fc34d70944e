-- Reports: the bytes and the status that a command gives for its texts.
use Rattle.std.specs.Prelude.{◌≡◌, ◌⊎◌, ◌↔◌, IsTrue, filter, ℕ, Bool, true, List, [], ◌∷◌, ◌++◌, map, length, codes, decimal, Result, Ok, if◌then◌else◌}
use Rattle.std.specs.List.{flat_map}
use Rattle.tg_names.specs.declared.right_sets.Right.{Right}
use Rattle.tg_names.specs.declared.right_sets.Rights.{Rights}
use Rattle.tg_graph.specs.declared.rules.Rule.{Rule}
use Rattle.tg_names.specs.Sets.{IsNamed, is_empty_set, member}
use Rattle.tg_names.specs.Letters.{letters_of}
use Rattle.tg_names.specs.Names.{Name, same_name}
use Rattle.tg_graph.specs.Graphs.{ProtectionGraph, has_vertex}
use Rattle.tg_graph.specs.RuleLists.{CanShare, CanShareAll}
use Rattle.tg_words.specs.Reading.{◌>>=◌}
use Rattle.tg_text.specs.Canonical.{canonical_text, in_name_order}
use Rattle.tg_words.specs.Spelling.{line_of}
use Rattle.tg_text.specs.RoundTrips.{lines_of_rules}
use Rattle.tg_islands.specs.Sharing.{InOneIsland}
use Rattle.tg_sharing.specs.SetDerivations.{IsDerivationOfAll}
use Rattle.tg_cuts.specs.Cuts.{IsTheCut, HasNoCut}
use Rattle.tg_inputs.specs.Calls.{CommandWords, Case, Check, Apply, Islands, Share, Derive, Table, Run, Who, Reach, Verify, Cut}
use Rattle.tg_inputs.specs.Readings.{ReportText, graph_in, rules_in, Question, question_in, TableQuestion, table_in, WhoQuestion, who_in, ReachQuestion, reach_in, CutQuestion, cut_in, policy_in, IsFor, Is}
use Rattle.tg_inputs.specs.Replies.{Played, played}
use Rattle.tg_inputs.specs.Parts.{graph_part, rules_part}
use Rattle.tg_policies.specs.Derived.{derivation_report}
use Rattle.tg_policies.specs.Policies.{IsVerified}
use Rattle.tg_plays.specs.Runs.{playing_in, IsPlayed}

-- the replies, and the graph as it stands
abbrev pub played_report : Played → ReportText
played_report p = record { bytes = p.replies ++ line_of (codes "graph" ∷ []) ++ canonical_text p.end; status = p.status }

abbrev pub check_report : List ℕ → Result ReportText ReportText
check_report first = do
  g ← graph_in first
  Ok (record { bytes = canonical_text g; status = 0 })

abbrev pub apply_report : List ℕ → List ℕ → Result ReportText ReportText
apply_report first second = do
  g ← graph_in first
  rules ← rules_in second
  Ok (played_report (played g rules))

-- one line of words
abbrev pub says : List (List ℕ) → ReportText
says words = record { bytes = line_of words; status = 0 }

-- the answer to a question: yes exactly where one list of rules gives each of the rights
abbrev pub IsAnswer : Question → ReportText → Type 0
IsAnswer q report =
    (CanShareAll q.graph q.rights q.x q.y × (report ≡ says (codes "yes" ∷ [])))
    ⊎ ((CanShareAll q.graph q.rights q.x q.y → ⊥) × (report ≡ says (codes "no" ∷ [])))

-- rules that give each of the rights; no exactly where no list of rules does
abbrev pub IsDerived : Question → ReportText → Type 0
IsDerived q report =
    ((rules : List Rule) × IsDerivationOfAll q.graph q.rights q.x q.y rules × (report ≡ derivation_report rules))
    ⊎ ((CanShareAll q.graph q.rights q.x q.y → ⊥) × (report ≡ says (codes "#" ∷ codes "no" ∷ [])))

-- the line of the island whose vertices follow, if v is the least of them
abbrev pub island_line : Name → List Name → List ℕ
island_line v [] = []
island_line v (w ∷ ws) = if same_name v w then w ++ flat_map (λ u. 32 ∷ u) ws ++ 10 ∷ [] else []

-- for each of the names that is the least of its island a line with the names of the island
abbrev pub islands_text : (Name → Name → Bool) → List Name → List ℕ
islands_text together vs = flat_map (λ v. island_line v (filter (together v) vs)) vs

-- the test tells which vertices lie in one island
abbrev pub TellsIslands : ProtectionGraph → (Name → Name → Bool) → Type 0
TellsIslands g together = (u v : Name) → has_vertex g u ≡ true → has_vertex g v ≡ true → IsTrue (together u v) ↔ InOneIsland g u v

-- a line for each island: its names in name order, and the islands in the order of their least names
abbrev pub AreIslandLines : ProtectionGraph → ReportText → Type 0
AreIslandLines g report =
    (together : Name → Name → Bool) × TellsIslands g together × (report ≡ record { bytes = islands_text together (in_name_order g.vertices); status = 0 })

-- the test tells which vertices can come to have the right over which
abbrev pub TellsSharing : ProtectionGraph → Right → (Name → Name → Bool) → Type 0
TellsSharing g right shares = (u v : Name) → has_vertex g u ≡ true → has_vertex g v ≡ true → IsTrue (shares u v) ↔ CanShare g right u v

-- 1 for yes and 0 for no
abbrev pub digit_for : Bool → ℕ
digit_for answer = if answer then 49 else 48

-- for each of the names a line: the name, a space, and a digit for each of the names
abbrev pub table_text : (Name → Name → Bool) → List Name → List ℕ
table_text shares vs = flat_map (λ u. u ++ 32 ∷ map (λ v. digit_for (shares u v)) vs ++ 10 ∷ []) vs

-- a line for each vertex in name order, with a digit for each vertex in name order
abbrev pub AreTableLines : TableQuestion → ReportText → Type 0
AreTableLines q report =
    (shares : Name → Name → Bool) × TellsSharing q.graph q.right shares × (report ≡ record { bytes = table_text shares (in_name_order q.graph.vertices); status = 0 })

-- the test tells who can come to have the rights over y
abbrev pub TellsWho : ProtectionGraph → Rights → Name → (Name → Bool) → Type 0
TellsWho g rights y comes = (x : Name) → has_vertex g x ≡ true → IsTrue (comes x) ↔ CanShareAll g rights x y

-- the line of a name, if it is to have one
abbrev pub name_line : Bool → Name → List ℕ
name_line has_line v = if has_line then v ++ 10 ∷ [] else []

-- a line for each of the names that passes the test
abbrev pub who_text : (Name → Bool) → List Name → List ℕ
who_text comes vs = flat_map (λ v. name_line (comes v) v) vs

-- a line for each vertex that can come to have the rights over y, in name order
abbrev pub AreWhoLines : WhoQuestion → ReportText → Type 0
AreWhoLines q report =
    (comes : Name → Bool) × TellsWho q.graph q.rights q.y comes × (report ≡ record { bytes = who_text comes (in_name_order q.graph.vertices); status = 0 })

-- exactly these rights can x come to have over y
pub record IsReached (g : ProtectionGraph) (x y : Name) (reached : Rights) : Type 0 where
  pub named : IsNamed reached
  pub exact : (right : Right) → IsTrue (member reached right) ↔ CanShare g right x y

-- the sets tell what x can come to have over whom
abbrev pub TellsReach : ProtectionGraph → Name → (Name → Rights) → Type 0
TellsReach g x reached = (y : Name) → has_vertex g y ≡ true → IsReached g x y (reached y)

-- the line of a name and a set of rights, if that has any
abbrev pub reach_line : Rights → Name → List ℕ
reach_line s v = if is_empty_set s then [] else v ++ 32 ∷ letters_of s ++ 10 ∷ []

-- a line for each of the names whose set has a right
abbrev pub reach_text : (Name → Rights) → List Name → List ℕ
reach_text reached vs = flat_map (λ v. reach_line (reached v) v) vs

-- a line for each vertex over which x can come to have some right, in name order, with the letters of exactly those rights
abbrev pub AreReachLines : ReachQuestion → ReportText → Type 0
AreReachLines q report =
    (reached : Name → Rights) × TellsReach q.graph q.x reached × (report ≡ record { bytes = reach_text reached (in_name_order q.graph.vertices); status = 0 })

-- the rules of a cut as a text of rules: how many edges lose rights, and what each loses
abbrev pub cut_report : List Rule → ReportText
cut_report rules = record { bytes = line_of (codes "#" ∷ codes "cut" ∷ decimal (length rules) ∷ []) ++ lines_of_rules rules; status = 0 }

-- the kept edges leave no cut
abbrev pub no_cut_report : ReportText
no_cut_report = record { bytes = line_of (codes "#" ∷ codes "none" ∷ []); status = 1 }

-- no exactly where x can't come to have the right; none exactly where the kept edges leave no cut; else the least cut nearest to x
abbrev pub IsCut : CutQuestion → ReportText → Type 0
IsCut q report =
    ((CanShare q.graph q.right q.x q.y → ⊥) × (report ≡ says (codes "#" ∷ codes "no" ∷ [])))
    ⊎ ((HasNoCut q.graph q.right q.x q.y q.kept × (report ≡ no_cut_report))
    ⊎ ((cut : List Rule) × CanShare q.graph q.right q.x q.y × IsTheCut q.graph q.right q.x q.y q.kept cut × (report ≡ cut_report cut)))

-- the report of a command for its texts
abbrev pub IsReport : CommandWords → List ℕ → List ℕ → ReportText → Type 0
IsReport Case first second = IsFor Is (apply_report (graph_part first) (rules_part first))
IsReport Check first second = IsFor Is (check_report first)
IsReport Apply first second = IsFor Is (apply_report first second)
IsReport Islands first second = IsFor AreIslandLines (graph_in first)
IsReport (Share rights x y) first second = IsFor IsAnswer (question_in first rights x y)
IsReport (Derive rights x y) first second = IsFor IsDerived (question_in first rights x y)
IsReport (Table right workers) first second = IsFor AreTableLines (table_in first right workers)
IsReport Run first second = IsFor (λ playing. IsPlayed playing.graph playing.script) (playing_in first second)
IsReport (Who rights y) first second = IsFor AreWhoLines (who_in first rights y)
IsReport (Reach x) first second = IsFor AreReachLines (reach_in first x)
IsReport (Verify why) first second = IsFor (λ policy. IsVerified why policy.graph policy.lines) (policy_in first second)
IsReport (Cut right x y kept) first second = IsFor IsCut (cut_in first right x y kept)
