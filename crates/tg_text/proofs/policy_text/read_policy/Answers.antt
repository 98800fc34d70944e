use Rattle.std.proofs.Common.{sym, ap, ◌∙◌, true, false, length, Ok, Vec, Global}
use Rattle.tg_graph.specs.GraphOf.{graph_of}
use Rattle.tg_words.specs.Lines.{lines_of}
use Rattle.tg_words.specs.Reading.{◌>>=◌}
use Rattle.tg_text.specs.declared.policy_text.PolicyLine.{PolicyLine}
use Rattle.tg_text.specs.PolicyText.{policy_of}
use Rattle.tg_text.proofs.PolicyClaims.{policy-stated, policy-unstated, has_claim-told}
use Rattle.tg_text.proofs.PolicyReads.{policy-made-from, policy-fault-from}
use Rattle.tg_text.proofs.PolicySound.{policies_sound}
use Rattle.tg_text.proofs.policy_text.read_policy.Goals as goal

pub returns-in-Err-clause-value : goal.returns-in-Err-clause-value
returns-in-Err-clause-value c =
    policy-fault-from (graph_of c.args.graph.now) (λ (lines : Vec PolicyLine Global). policy_of lines.items) c.args.text.now (policy_of c.new-2.result.items) (ap policy_of c.new-2.ensures.items) (length (lines_of c.args.text.now)) c.in-Err.fault (graph_of c.read_lines.new.items.graph.now, policy_of c.read_lines.new.items.lines.items) c.in-Err.ensures.made

pub returns-then-not-has_claim-clause-value : goal.returns-then-not-has_claim-clause-value
returns-then-not-has_claim-clause-value c =
    let g = graph_of c.args.graph.now in
    let text = c.args.text.now in
    let items = c.read_lines.new.items.lines.items in
    let read = policy-made-from g text (policy_of c.new-2.result.items) (ap policy_of c.new-2.ensures.items) ∙ ap (λ r. r >>= λ made. Ok made.1) c.in-Ok.ensures.made.1 in
    policy-unstated g text (policy_of items) c.in-Ok.count read c.in-Ok.ensures.made.0 (has_claim-told c.deref.result.now items false c.deref.ensures.value (sym c.if-not-has_claim.true ∙ c.has_claim.ensures))

pub returns-clause-value : goal.returns-clause-value
returns-clause-value c =
    let g = graph_of c.args.graph.now in
    let text = c.args.text.now in
    let items = c.read_lines.new.items.lines.items in
    let read = policy-made-from g text (policy_of c.new-2.result.items) (ap policy_of c.new-2.ensures.items) ∙ ap (λ r. r >>= λ made. Ok made.1) c.in-Ok.ensures.made.1 in
    policy-stated g text (policy_of items) read (has_claim-told c.deref.result.now items true c.deref.ensures.value (sym c.if-not-has_claim.false ∙ c.has_claim.ensures))

pub returns-clause-sound : goal.returns-clause-sound
returns-clause-sound c =
    let g = graph_of c.args.graph.now in
    let text = c.args.text.now in
    let items = c.read_lines.new.items.lines.items in
    let read = policy-made-from g text (policy_of c.new-2.result.items) (ap policy_of c.new-2.ensures.items) ∙ ap (λ r. r >>= λ made. Ok made.1) c.in-Ok.ensures.made.1 in
    policies_sound g text (policy_of items) (policy-stated g text (policy_of items) read (has_claim-told c.deref.result.now items true c.deref.ensures.value (sym c.if-not-has_claim.false ∙ c.has_claim.ensures)))
