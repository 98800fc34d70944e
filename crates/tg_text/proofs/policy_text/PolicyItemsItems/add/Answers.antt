use Rattle.std.proofs.Common.{◌≡◌, ◌∷◌, List, Result, Ok, Some, None, ap, sym, subst, ◌∙◌}
use Rattle.tg_graph.specs.Graphs.{ProtectionGraph}
use Rattle.tg_graph.specs.GraphOf.{graph_of}
use Rattle.tg_words.specs.declared.faults.TextKind.{TextKind}
use Rattle.tg_words.specs.Lines.{words_of}
use Rattle.tg_words.specs.Reading.{Makes, with_item}
use Rattle.tg_words.specs.Limits.{most_policy_lines}
use Rattle.tg_text.specs.PolicyText.{PolicyLineOf, policy_of}
use Rattle.tg_text.specs.PolicyState.{known_to}
use Rattle.tg_text.proofs.PolicyReads.{line_with, item-unknown, item-known, makes-beside}
use Rattle.tg_text.proofs.policy_text.PolicyItemsItems.add.Goals as goal

pub returns-in-Err-clause-made : goal.returns-in-Err-clause-made
returns-in-Err-clause-made c =
    let self = c.args.self.now in
    let g = graph_of self.graph.now in
    let operands = c.in_ok-claim.operands.items in
    let found : known_to g self.groups operands ≡ Some c.in-Err.kind = ap (known_to g self.groups) (sym c.deref.ensures.value) ∙ c.in-Err.ensures in
    item-unknown g self.groups c.args.line (policy_of self.lines.items) c.requires (c.args.first.now ∷ words_of c.args.rest.now) (c.in_ok-claim.claim, operands) c.in-Err.kind c.in_ok-claim.ensures found

pub returns-clause-made : goal.returns-clause-made
returns-clause-made c =
    let self = c.args.self.now in
    let g = graph_of self.graph.now in
    let lines = policy_of self.lines.items in
    let says = c.in_ok-claim.claim in
    let operands = c.in_ok-claim.operands.items in
    let more = policy_of c.push_line.new.lines.items in
    let found : known_to g self.groups operands ≡ None = ap (known_to g self.groups) (sym c.deref.ensures.value) ∙ c.in_default.ensures in
    let item = item-known g self.groups c.args.line lines c.requires (c.args.first.now ∷ words_of c.args.rest.now) (says, operands) c.in_ok-claim.ensures found in
    let Made : Result (ProtectionGraph × List PolicyLineOf) TextKind → Type 0 = λ r. Makes {A = ProtectionGraph × List PolicyLineOf} r c.push_line.result (g, more) in
    subst Made (sym item) (makes-beside g (with_item most_policy_lines lines (Ok (line_with c.args.line says operands))) c.push_line.result more c.push_line.ensures.made)
