use Rattle.std.proofs.Common.{◌≡◌, ◌≤◌, List, length, refl, ap, subst, ◌∙◌, arith}
use Rattle.std.specs.List.{list_any}
use Rattle.tg_names.specs.Names.{Name}
use Rattle.tg_graph.specs.GraphOf.{graph_of}
use Rattle.tg_text.specs.declared.policy_text.Operand.{Operand}
use Rattle.tg_text.specs.Canonical.{in_name_order}
use Rattle.tg_text.specs.PolicyText.{lacks_vertex, line_of_policy}
use Rattle.tg_policies.specs.declared.verdicts.Verdicts.{Verdicts}
use Rattle.tg_policies.specs.Policies.{some_stands_for}
use Rattle.tg_policies.specs.PolicyParts.{is_marked_name, membership, members_in}
use Rattle.tg_policies.proofs.FirstBreaks.{known-all, strict-names}
use Rattle.tg_policies.proofs.ToldLines.{told-claim, told-group}
use Rattle.tg_policies.proofs.verdicts.Verdicts.tell.Goals as goal

pub marks_of-requires-clause-order : goal.marks_of-requires-clause-order
marks_of-requires-clause-order c = strict-names (graph_of c.args.graph.now) c.names.result.now (c.names.ensures ∙ c.requires.names)

pub marks_of-requires-clause-known : goal.marks_of-requires-clause-known
marks_of-requires-clause-known c = known-all (graph_of c.args.graph.now) c.names.result.now (c.names.ensures ∙ c.requires.names) c.deref.result.now (ap (list_any (lacks_vertex (graph_of c.args.graph.now))) c.deref.ensures.value ∙ c.requires.known)

pub returns-in-Group : goal.returns-in-Group
returns-in-Group c = λ lines told.
    let g = graph_of c.args.graph.now in
    let vs = in_name_order g.vertices in
    let old = c.args.self.now in
    let new : Verdicts = record { groups = c.join.new.self; text = old.text; broken = old.broken } in
    let line = line_of_policy c.args.line.now in
    let marks = c.in_ok-marks.marks.items in
    let all = c.names.ensures ∙ c.requires.names in
    let each = subst (λ (l : List Name). (v : Name) → is_marked_name l marks v ≡ some_stands_for (membership l old.groups) c.deref.result.now v) all c.in_ok-marks.ensures.each in
    let marked = λ (v : Name). each v ∙ ap (λ (operands : List Operand). some_stands_for (members_in g old.groups) operands v) c.deref.ensures.value in
    let len : length vs ≤ length marks = (let same = c.in_ok-marks.ensures.len in let lengths = ap length all in omega arith) in
    told-group c.args.why g lines old new line told c.in-Group.name (is_marked_name vs marks) c.in-Group.is marked (c.in_ok-join.ensures vs len) refl refl

pub returns : goal.returns
returns c = λ lines told.
    told-claim c.args.why (graph_of c.args.graph.now) lines c.args.self.now c.tell_claim.new.self (line_of_policy c.args.line.now) told c.in_default.not-Group c.in_ok-tell_claim.ensures
