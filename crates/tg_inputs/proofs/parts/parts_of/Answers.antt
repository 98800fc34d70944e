use Rattle.std.proofs.Common.{sym, ◌∙◌, arith}
use Rattle.std.proofs.lemmas.Bool.Decides.{nat_tests}
use Rattle.std.proofs.lemmas.List.{nil_from_length}
use Rattle.tg_inputs.proofs.Parting.{at_start, one_line_on, graph_before, rules_behind, all_is_graph, no_rules}
use Rattle.tg_inputs.proofs.parts.parts_of.Goals as goal

pub loop-rest-init : goal.loop-rest-init
loop-rest-init c = at_start c.args.input.now

pub loop-rest-preserved : goal.loop-rest-preserved
loop-rest-preserved c =
    let cut = c.cut_line.ensures in
    one_line_on c.args.input.now c.loop-rest.rest.now c.cut_line.result.0.now c.cut_line.result.1.now c.loop-rest.invariant (omega arith) cut.cut cut.joined cut.shorter (sym c.parts_texts.ensures ∙ c.if-parts_texts.false)

pub returns-then-parts_texts-clause-graph : goal.returns-then-parts_texts-clause-graph
returns-then-parts_texts-clause-graph c =
    graph_before c.args.input.now c.loop-rest.rest.now c.cut_line.result.0.now c.cut_line.result.1.now c.loop-rest.invariant (omega arith) c.cut_line.ensures.cut (sym c.parts_texts.ensures ∙ c.if-parts_texts.true)

pub returns-then-parts_texts-clause-rules : goal.returns-then-parts_texts-clause-rules
returns-then-parts_texts-clause-rules c =
    rules_behind c.args.input.now c.loop-rest.rest.now c.cut_line.result.0.now c.cut_line.result.1.now c.loop-rest.invariant c.cut_line.ensures.cut (sym c.parts_texts.ensures ∙ c.if-parts_texts.true)

pub returns-clause-graph : goal.returns-clause-graph
returns-clause-graph c = all_is_graph c.args.input.now c.loop-rest.rest.now c.loop-rest.invariant (nil_from_length c.loop-rest.rest.now (grind (arith, nat_tests)))

pub returns-clause-rules : goal.returns-clause-rules
returns-clause-rules c = no_rules c.args.input.now c.loop-rest.rest.now c.loop-rest.invariant (nil_from_length c.loop-rest.rest.now (grind (arith, nat_tests)))
