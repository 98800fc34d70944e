use Rattle.std.proofs.Common.{◌<◌, ◌||◌, length, sym, ap, subst, ◌∙◌, arith}
use Rattle.std.proofs.lemmas.Option.{slice_get_within}
use Rattle.tg_graph.proofs.Positions.{at-position}
use Rattle.tg_text.specs.declared.policy_text.Operand.{Operand}
use Rattle.tg_islands.proofs.RowEnds.{found}
use Rattle.tg_policies.specs.Policies.{stands_for}
use Rattle.tg_policies.specs.PolicyParts.{IsNamed, is_marked_name, membership}
use Rattle.tg_policies.proofs.GroupLaws.{marks-one}
use Rattle.tg_policies.proofs.groups.Groups.mark.Goals as goal

pub returns-in-Some-clause-each : goal.returns-in-Some-clause-each
returns-in-Some-clause-each c = λ v.
    let names = c.args.names.now in
    let marks = c.args.marks.now in
    let name = c.in-Vertex.name in
    let place = c.in-Some.place in
    let e = sym c.place_of.ensures ∙ c.in-Some.is in
    let low : place < length marks = (let within = slice_get_within names place name (at-position names name place e) in let len = c.requires.len in omega arith) in
    marks-one names c.requires.order marks name place e low v
    ∙ ap (λ (one : Operand). is_marked_name names marks v || stands_for (membership names c.args.self.now) v one) (sym c.in-Vertex.is)

pub returns-in_default-clause-each : goal.returns-in_default-clause-each
returns-in_default-clause-each c = λ v.
    let names = c.args.names.now in
    let there = found names c.in-Vertex.name (subst (IsNamed names) c.in-Vertex.is c.requires.known) in
    let none = sym c.place_of.ensures ∙ c.in_default.is in
    let some = there.1 in absurd cc
