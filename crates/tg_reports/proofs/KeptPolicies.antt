-- A report of `verify` that ends with `kept` is of a policy that was read, states something, and holds.
use Rattle.std.proofs.Common.{◌≡◌, ◌⊎◌, inl, inr, refl, sym, ◌∙◌, ap, subst, ℕ, true, List, Result, Ok, Err, codes, arith}
use Rattle.tg_graph.specs.Graphs.{ProtectionGraph}
use Rattle.tg_words.specs.declared.faults.TextKind.{TextKind}
use Rattle.tg_words.specs.Reading.{◌>>=◌}
use Rattle.tg_text.specs.GraphText.{graph_text}
use Rattle.tg_text.specs.PolicyText.{PolicyLineOf, has_claim, policy_text}
use Rattle.tg_text.proofs.Steps.{bind_ok}
use Rattle.tg_text.proofs.PolicyLaws.{policy_texts_are_those}
use Rattle.tg_inputs.specs.Readings.{ReportText, PolicyOver, text_refusal, from_text, graph_in, policy_lines_in, policy_in, IsFor}
use Rattle.tg_policies.specs.Policies.{IsVerified}
use Rattle.tg_policies.proofs.VerdictLaws.{kept_exactly}
use Rattle.tg_reports.specs.ReportLaws.{KeepsItsPolicy, KeptPoliciesHold}
use Rattle.tg_reports.proofs.DerivedTexts.{from_read}

-- a policy that was read states something
stated : (first second : List ℕ) (p : PolicyOver) → policy_in first second ≡ Ok p → has_claim p.lines ≡ true
stated first second p e =
    let g = bind_ok (graph_in first) _ p e in
    let l = bind_ok (policy_lines_in g.0 second) _ p g.2 in
    let whole : record { graph = g.0; lines = l.0 } ≡ p = cc in
    subst (λ (q : PolicyOver). has_claim q.lines ≡ true) whole ((policy_texts_are_those g.0 second l.0).0 (from_read (codes "policy") (policy_text g.0 second) l.0 l.1)).claim

-- ---- the report of a fault has status 1

abbrev refused : (A : Type 0) → ReportText → Result A ReportText
refused A fault = Err fault

same_refusal : (A : Type 0) (x y : ReportText) → refused A x ≡ refused A y → x ≡ y
same_refusal A x y e = cc

fault_status : {A : Type 0} (text : List ℕ) (read : Result A (ℕ × TextKind)) (fault : ReportText) → from_text text read ≡ Err fault → fault.status ≡ 1
fault_status text (Ok x) fault e = absurd cc
fault_status {A} text (Err (n, kind)) fault e = sym (ap (λ (r : ReportText). r.status) (same_refusal A (text_refusal text (n, kind)) fault e))

abbrev with_lines : ProtectionGraph → Result (List PolicyLineOf) ReportText → Result PolicyOver ReportText
with_lines g read = read >>= λ lines. Ok (record { graph = g; lines = lines })

abbrev with_graph : List ℕ → Result ProtectionGraph ReportText → Result PolicyOver ReportText
with_graph second read = read >>= λ g. with_lines g (policy_lines_in g second)

lines_fault : (g : ProtectionGraph) (read : Result (List PolicyLineOf) ReportText) (fault : ReportText) → with_lines g read ≡ Err fault → read ≡ Err fault
lines_fault g (Ok lines) fault e = absurd cc
lines_fault g (Err other) fault e = ap (refused (List PolicyLineOf)) (same_refusal PolicyOver other fault e)

graph_fault : (second : List ℕ) (read : Result ProtectionGraph ReportText) (fault : ReportText) → with_graph second read ≡ Err fault → (read ≡ Err fault) ⊎ ((g : ProtectionGraph) × (policy_lines_in g second ≡ Err fault))
graph_fault second (Ok g) fault e = inr (g, lines_fault g (policy_lines_in g second) fault e)
graph_fault second (Err other) fault e = inl (ap (refused ProtectionGraph) (same_refusal PolicyOver other fault e))

policy_fault_status : (first second : List ℕ) (fault : ReportText) → policy_in first second ≡ Err fault → fault.status ≡ 1
policy_fault_status first second fault e =
    elim (graph_fault second (graph_in first) fault e) [
      | inl p ↦ fault_status (codes "graph") (graph_text first) fault p
      | inr p ↦ fault_status (codes "policy") (policy_text p.0 second) fault p.1
    ]

-- ---- the law

pub kept_policies_hold : KeptPoliciesHold
kept_policies_hold why first second report is kept = by (policy_in first second) refl is
  where
    by : (read : Result PolicyOver ReportText) → policy_in first second ≡ read → IsFor (λ (p : PolicyOver). IsVerified why p.graph p.lines) read report → KeepsItsPolicy first second
    by (Ok p) e verified = record { policy = p; read = e; claim = stated first second p e; holds = (kept_exactly why p.graph p.lines report verified).0.0 kept }
    by (Err fault) e same =
        let none : 0 ≡ 1 = sym (ap (λ (r : ReportText). r.status) kept.1) ∙ (ap (λ (r : ReportText). r.status) same ∙ policy_fault_status first second fault e) in
        absurd (omega (arith, none))
