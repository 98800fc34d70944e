-- Policies: who is in which group, what breaks a line, and the report.
use Rattle.std.specs.Prelude.{◌≡◌, ◌⊎◌, ◌↔◌, ◌<◌, ⊤, ℕ, nat_eq, IsTrue, Bool, true, false, ◌||◌, ◌&&◌, List, [], ◌∷◌, ◌++◌, map, take, slice_get, count_by, codes, decimal, is_some, Option, Some, None, if◌then◌else◌}
use Rattle.std.specs.List.{list_any}
use Rattle.std.specs.declared.cmp.Ordering.TheVariants.{Less}
use Rattle.tg_names.specs.declared.right_sets.Rights.{Rights}
use Rattle.tg_graph.specs.declared.rules.Rule.{Rule}
use Rattle.tg_names.specs.Sets.{member, bit_of}
use Rattle.tg_names.specs.Letters.{letter_of}
use Rattle.tg_names.specs.Names.{Name, same_name}
use Rattle.tg_graph.specs.Graphs.{ProtectionGraph, has_vertex}
use Rattle.tg_graph.specs.RuleLists.{CanShare}
use Rattle.tg_text.specs.declared.policy_text.Operand.{Operand}
use Rattle.tg_text.specs.declared.policy_text.Operand.TheVariants as operand
use Rattle.tg_text.specs.declared.policy_text.Claim.{Claim}
use Rattle.tg_text.specs.declared.policy_text.Claim.TheVariants as claim
use Rattle.tg_text.specs.PolicyText.{PolicyLineOf}
use Rattle.tg_text.specs.Canonical.{name_cmp}
use Rattle.tg_words.specs.Spelling.{line_of}
use Rattle.tg_analysis.specs.declared.cases.Case.{Case}
use Rattle.tg_sharing.specs.Derivations.{IsDerivation}
use Rattle.tg_inputs.specs.Readings.{ReportText}
use Rattle.tg_policies.specs.Derived.{derivation_report}

-- ---- groups
-- whether the group of the first name has the second as a member
abbrev pub Membership : Type 0
Membership = Name → Name → Bool

-- no group has a member
abbrev pub no_members : Membership
no_members n v = false

-- whether the vertex is one of those that the operand stands for
abbrev pub stands_for : Membership → Name → Operand → Bool
stands_for in_group v (operand.Vertex w) = same_name v w
stands_for in_group v (operand.Group n) = in_group n v

-- whether it is one of those that some of the operands stands for
abbrev pub some_stands_for : Membership → List Operand → Name → Bool
some_stands_for in_group operands v = list_any (stands_for in_group v) operands

-- who is in which group behind a line: those for whom its operands stand join the group that it names
abbrev pub members_after : Membership → Claim → List Operand → Membership
members_after in_group (claim.Group n) operands m v = in_group m v || (same_name m n && some_stands_for in_group operands v)
members_after in_group (claim.Never s) operands m v = in_group m v
members_after in_group (claim.May s) operands m v = in_group m v
members_after in_group (claim.Only s) operands m v = in_group m v

-- ---- what breaks a line
-- a right of the set, an x of the first operand and a y of the second
pub record IsAbout (in_group : Membership) (s : Rights) (first second : Operand) (b : Case) : Type 0 where
  pub asked : IsTrue (member s b.right)
  pub x : IsTrue (stands_for in_group b.x first)
  pub y : IsTrue (stands_for in_group b.y second)

-- a right of the set, a vertex x that none of the others stands for, and a y of the first operand
pub record IsBeyond (g : ProtectionGraph) (in_group : Membership) (s : Rights) (targets : Operand) (allowed : List Operand) (b : Case) : Type 0 where
  pub asked : IsTrue (member s b.right)
  pub vertex : has_vertex g b.x ≡ true
  pub x : some_stands_for in_group allowed b.x ≡ false
  pub y : IsTrue (stands_for in_group b.y targets)

-- the right of x over y is not as the line says
abbrev pub Breaks : ProtectionGraph → Membership → Claim → List Operand → Case → Type 0
Breaks g in_group (claim.Never s) (first ∷ second ∷ []) b = IsAbout in_group s first second b × CanShare g b.right b.x b.y
Breaks g in_group (claim.May s) (first ∷ second ∷ []) b = IsAbout in_group s first second b × (CanShare g b.right b.x b.y → ⊥)
Breaks g in_group (claim.Only s) (targets ∷ allowed) b = IsBeyond g in_group s targets allowed b × CanShare g b.right b.x b.y
Breaks g in_group claim operands b = ⊥

-- the first name comes before the second in name order
abbrev pub IsBelow : Name → Name → Type 0
IsBelow v w = name_cmp v w ≡ Less

-- a right comes before another in the order of the letters; with one right the names of x decide, and then those of y
pub data ComesBefore (a b : Case) : Type 0 where
  ByRight : bit_of a.right < bit_of b.right → ComesBefore a b
  ByFirst : a.right ≡ b.right → IsBelow a.x b.x → ComesBefore a b
  BySecond : a.right ≡ b.right → a.x ≡ b.x → IsBelow a.y b.y → ComesBefore a b

-- what breaks a line, and comes before all else that does
pub record IsFirstBreak (g : ProtectionGraph) (in_group : Membership) (claim : Claim) (operands : List Operand) (b : Case) : Type 0 where
  pub breaks : Breaks g in_group claim operands b
  pub first : (c : Case) → Breaks g in_group claim operands c → (c ≡ b) ⊎ ComesBefore b c

-- a line holds where nothing breaks it; else the first that does is named
abbrev pub IsVerdict : ProtectionGraph → Membership → Claim → List Operand → Option Case → Type 0
IsVerdict g in_group claim operands None = (b : Case) → Breaks g in_group claim operands b → ⊥
IsVerdict g in_group claim operands (Some b) = IsFirstBreak g in_group claim operands b

-- ---- lines in turn
-- who is in which group behind these lines
abbrev pub members_behind : Membership → List PolicyLineOf → Membership
members_behind in_group [] = in_group
members_behind in_group (line ∷ lines) = members_behind (members_after in_group line.claim line.operands) lines

-- a derivation of the right, where it was asked for and the line says who can't come to have it
abbrev pub IsWhy : Bool → ProtectionGraph → Claim → Option Case → List ℕ → Type 0
IsWhy true g (claim.Never s) (Some b) text = (rules : List Rule) × IsDerivation g b.right b.x b.y rules × (text ≡ (derivation_report rules).bytes)
IsWhy true g (claim.Only s) (Some b) text = (rules : List Rule) × IsDerivation g b.right b.x b.y rules × (text ≡ (derivation_report rules).bytes)
IsWhy why g claim verdict text = text ≡ []

-- what is found of a line: what breaks it first, if something does, and the derivation of that
pub record Finding : Type 0 where
  pub verdict : Option Case
  pub why : List ℕ

pub record IsFinding (with_why : Bool) (g : ProtectionGraph) (in_group : Membership) (line : PolicyLineOf) (found : Finding) : Type 0 where
  pub verdict : IsVerdict g in_group line.claim line.operands found.verdict
  pub why : IsWhy with_why g line.claim found.verdict found.why

-- what is found of each line, by those who are in the groups then
abbrev pub AreFindings : Bool → ProtectionGraph → Membership → List PolicyLineOf → List Finding → Type 0
AreFindings why g in_group [] [] = ⊤
AreFindings why g in_group [] (found ∷ more) = ⊥
AreFindings why g in_group (line ∷ lines) [] = ⊥
AreFindings why g in_group (line ∷ lines) (found ∷ more) = IsFinding why g in_group line found × AreFindings why g (members_after in_group line.claim line.operands) lines more

-- ---- the report
abbrev pub verdict_line : ℕ → Option Case → List ℕ
verdict_line n None = line_of (decimal n ∷ codes "holds" ∷ [])
verdict_line n (Some b) = line_of (decimal n ∷ codes "fails" ∷ (letter_of b.right ∷ []) ∷ b.x ∷ b.y ∷ [])

-- what is told of a line: nothing of that of a group
abbrev pub told_of : PolicyLineOf → Claim → Finding → List ℕ
told_of line (claim.Group n) found = []
told_of line (claim.Never s) found = verdict_line line.line found.verdict ++ found.why
told_of line (claim.May s) found = verdict_line line.line found.verdict ++ found.why
told_of line (claim.Only s) found = verdict_line line.line found.verdict ++ found.why

abbrev pub told_of_all : List PolicyLineOf → List Finding → List ℕ
told_of_all [] found = []
told_of_all (line ∷ lines) [] = []
told_of_all (line ∷ lines) (found ∷ more) = told_of line line.claim found ++ told_of_all lines more

-- how many lines fail
abbrev pub broken_count : List Finding → ℕ
broken_count found = count_by (λ f. is_some f.verdict) found

-- what is told of the lines, and behind it whether all of them hold
abbrev pub verified_report : List ℕ → ℕ → ReportText
verified_report text broken = if nat_eq broken 0 then record { bytes = text ++ line_of (codes "kept" ∷ []); status = 0 } else record { bytes = text ++ line_of (codes "broken" ∷ decimal broken ∷ []); status = 1 }

-- the report of a policy
abbrev pub IsVerified : Bool → ProtectionGraph → List PolicyLineOf → ReportText → Type 0
IsVerified why g lines report = (found : List Finding) × AreFindings why g no_members lines found × (report ≡ verified_report (told_of_all lines found) (broken_count found))

-- ---- what the report comes to
-- nothing breaks a line
abbrev pub Holds : ProtectionGraph → Membership → PolicyLineOf → Type 0
Holds g in_group line = (b : Case) → Breaks g in_group line.claim line.operands b → ⊥

-- each line holds by the groups that the lines above it made
abbrev pub AllHold : ProtectionGraph → Membership → List PolicyLineOf → Type 0
AllHold g in_group lines = (place : ℕ) (line : PolicyLineOf) → slice_get lines place ≡ Some line → Holds g (members_behind in_group (take place lines)) line

-- the report ends with `kept`, and has status 0
abbrev pub IsKept : ReportText → Type 0
IsKept report = (told : List ℕ) × (report ≡ record { bytes = told ++ line_of (codes "kept" ∷ []); status = 0 })

-- a policy is kept exactly where each line holds, and the status is 0 exactly then
abbrev pub KeptExactly : Type 0
KeptExactly = (why : Bool) (g : ProtectionGraph) (lines : List PolicyLineOf) (report : ReportText) → IsVerified why g lines report → (IsKept report ↔ AllHold g no_members lines) × ((report.status ≡ 0) ↔ IsKept report)

-- two reports on one policy have the same verdicts, whether or not derivations stand between them
abbrev pub VerdictsAreOne : Type 0
VerdictsAreOne = (why other : Bool) (g : ProtectionGraph) (lines : List PolicyLineOf) (found more : List Finding) → AreFindings why g no_members lines found → AreFindings other g no_members lines more → map (λ f. f.verdict) found ≡ map (λ f. f.verdict) more
