use Rattle.std.proofs.Common.{List, length, take, refl, sym, subst, arith}
use Rattle.std.proofs.lemmas.List.{take_all}
use Rattle.std.proofs.lemmas.Option.{slice_get_read}
use Rattle.tg_graph.specs.GraphOf.{graph_of}
use Rattle.tg_text.specs.declared.policy_text.PolicyLine.{PolicyLine}
use Rattle.tg_text.specs.PolicyText.{PolicyLineOf, policy_of}
use Rattle.tg_analysis.specs.Cases.{AreVertices}
use Rattle.tg_policies.specs.PolicyParts.{HasTold}
use Rattle.tg_policies.proofs.FirstBreaks.{all-vertices}
use Rattle.tg_policies.proofs.ToldLines.{known-at, policy-more}
use Rattle.tg_policies.proofs.verifying.told.Goals as goal

pub of-requires : goal.of-requires
of-requires c =
    let g = graph_of c.args.graph.now in
    subst (AreVertices g) (sym c.deref.ensures.value) (all-vertices g c.in_ok-names.names.items c.in_ok-names.ensures.names)

pub tell-requires-clause-known : goal.tell-requires-clause-known
tell-requires-clause-known c =
    let lines = c.args.lines.now in
    let at = slice_get_read lines (length lines) c.loop-line.line-index c.line-item.result refl c.loop-line-test.true c.line-item.is in
    known-at lines c.loop-line.line-index c.line-item.result at (graph_of c.args.graph.now) c.requires.sound

pub loop-line-preserved : goal.loop-line-preserved
loop-line-preserved c =
    let lines = c.args.lines.now in
    let at = slice_get_read lines (length lines) c.loop-line.line-index c.line-item.result refl c.loop-line-test.true c.line-item.is in
    subst (λ (told : List PolicyLineOf). HasTold c.args.why (graph_of c.args.graph.now) told c.tell.new.self) (sym (policy-more lines c.loop-line.line-index c.line-item.result at)) (c.in_ok-tell.ensures (policy_of (take c.loop-line.line-index lines)) c.loop-line.invariant)

pub returns : goal.returns
returns c =
    let lines = c.args.lines.now in
    let all = take_all c.loop-line.line-index lines (omega arith) in
    subst (λ (told : List PolicyLine). HasTold c.args.why (graph_of c.args.graph.now) (policy_of told) c.loop-line.verdicts) all c.loop-line.invariant
