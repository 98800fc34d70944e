use Rattle.std.proofs.Common.{◌≡◌, ℕ, ◌+◌, Bool, false, cond, List, [], is_some, arith, sym, ap, subst, ◌∙◌}
use Rattle.std.proofs.lemmas.List.{append-nil}
use Rattle.tg_names.specs.Names.{Name}
use Rattle.tg_graph.specs.GraphOf.{graph_of}
use Rattle.tg_rows.specs.Rows.{Entries}
use Rattle.tg_text.specs.Canonical.{in_name_order}
use Rattle.tg_text.specs.PolicyText.{lacks_vertex, line_of_policy}
use Rattle.tg_policies.specs.declared.verdicts.Verdicts.{Verdicts}
use Rattle.std.specs.List.{list_any}
use Rattle.tg_policies.specs.Policies.{IsVerdict, IsWhy}
use Rattle.tg_policies.specs.PolicyParts.{membership, NamesVertices}
use Rattle.tg_policies.proofs.ToldLines.{told-why, no-why}
use Rattle.tg_policies.proofs.verdicts.Verdicts.tell_claim.Goals as goal
use Rattle.tg_policies.proofs.verdicts.Verdicts.tell_claim.Goals.{then-why+in_ok-append_why, else-why}

pub returns-then-is_some : goal.returns-then-is_some
returns-then-is_some c =
    let g = graph_of c.args.graph.now in
    let old = c.args.self.now in
    let line = line_of_policy c.args.line.now in
    let verdict = c.in_ok-verdict.verdict in
    let index = c.args.index.now in
    let by_index = subst (λ (es : Entries). IsVerdict (graph_of es) (membership index.names old.groups) line.claim line.operands verdict) c.requires.graph c.in_ok-verdict.ensures.verdict in
    let is = subst (λ (names : List Name). IsVerdict g (membership names old.groups) line.claim line.operands verdict) c.requires.names by_index in
    let now : Verdicts = record { groups = c.if-why.self.groups; text = c.if-why.self.text; broken = c.if-why.self.broken + 1 } in
    let text = c.append_verdict.new.text.items in
    let one : cond (is_some verdict) 1 0 ≡ 1 = ap {B = ℕ} (λ (t : Bool). cond t 1 0) (sym c.is_some.ensures ∙ c.if-is_some.true) in
    elim c.if-why.branch [
      | then-why+in_ok-append_why w ↦
          let below = w.in_ok-append_why.ensures in
          told-why c.args.why g line old now verdict text below.0 is c.in_ok-append_verdict.ensures (subst (λ (b : Bool). IsWhy b g line.claim verdict below.0) (sym w.if-why.true) below.1) (ap (λ (v : Verdicts). v.text.items) w.self-is ∙ below.2) (ap (λ (v : Verdicts). v.groups) w.self-is) (ap (λ (v : Verdicts). v.broken + 1) w.self-is ∙ ap (λ n. old.broken + n) (sym one))
      | else-why w ↦
          told-why c.args.why g line old now verdict text [] is c.in_ok-append_verdict.ensures (subst (λ (b : Bool). IsWhy b g line.claim verdict []) (sym w.if-why.false) (no-why g line.claim verdict)) (ap (λ (v : Verdicts). v.text.items) w.self-is ∙ sym (append-nil text)) (ap (λ (v : Verdicts). v.groups) w.self-is) (ap (λ (v : Verdicts). v.broken + 1) w.self-is ∙ ap (λ n. old.broken + n) (sym one))
    ]

pub returns-else-is_some : goal.returns-else-is_some
returns-else-is_some c =
    let g = graph_of c.args.graph.now in
    let old = c.args.self.now in
    let line = line_of_policy c.args.line.now in
    let verdict = c.in_ok-verdict.verdict in
    let index = c.args.index.now in
    let by_index = subst (λ (es : Entries). IsVerdict (graph_of es) (membership index.names old.groups) line.claim line.operands verdict) c.requires.graph c.in_ok-verdict.ensures.verdict in
    let is = subst (λ (names : List Name). IsVerdict g (membership names old.groups) line.claim line.operands verdict) c.requires.names by_index in
    let now = c.if-why.self in
    let text = c.append_verdict.new.text.items in
    let none : old.broken ≡ old.broken + cond (is_some verdict) 1 0 = (let same = ap {B = ℕ} (λ (t : Bool). cond t 1 0) (sym c.is_some.ensures ∙ c.if-is_some.false) in omega (arith, same)) in
    elim c.if-why.branch [
      | then-why+in_ok-append_why w ↦
          let below = w.in_ok-append_why.ensures in
          told-why c.args.why g line old now verdict text below.0 is c.in_ok-append_verdict.ensures (subst (λ (b : Bool). IsWhy b g line.claim verdict below.0) (sym w.if-why.true) below.1) (ap (λ (v : Verdicts). v.text.items) w.self-is ∙ below.2) (ap (λ (v : Verdicts). v.groups) w.self-is) (ap (λ (v : Verdicts). v.broken) w.self-is ∙ none)
      | else-why w ↦
          told-why c.args.why g line old now verdict text [] is c.in_ok-append_verdict.ensures (subst (λ (b : Bool). IsWhy b g line.claim verdict []) (sym w.if-why.false) (no-why g line.claim verdict)) (ap (λ (v : Verdicts). v.text.items) w.self-is ∙ sym (append-nil text)) (ap (λ (v : Verdicts). v.groups) w.self-is) (ap (λ (v : Verdicts). v.broken) w.self-is ∙ none)
    ]

pub first_break-requires-clause-names : goal.first_break-requires-clause-names
first_break-requires-clause-names c = c.requires.names ∙ ap (λ (es : Entries). in_name_order (graph_of es).vertices) (sym c.requires.graph)

pub first_break-requires-clause-known : goal.first_break-requires-clause-known
first_break-requires-clause-known c = subst (λ (es : Entries). list_any (lacks_vertex (graph_of es)) c.args.line.now.operands.items ≡ false) (sym c.requires.graph) c.requires.known

pub append_why-requires-clause-vertices : goal.append_why-requires-clause-vertices
append_why-requires-clause-vertices c = subst (λ (es : Entries). NamesVertices (graph_of es) c.in_ok-verdict.verdict) c.requires.graph c.in_ok-verdict.ensures.vertices
