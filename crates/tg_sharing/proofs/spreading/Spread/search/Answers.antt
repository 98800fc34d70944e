use Rattle.std.proofs.Common.{◌≤◌, IsTrue, inl, inr, length, refl, sym, ◌∙◌, true≢false, arith}
use Rattle.std.specs.Map.{keys_of}
use Rattle.std.proofs.lemmas.Map.Entries.{length-keys_of}
use Rattle.tg_names.specs.declared.right_sets.Right.{Right}
use Rattle.tg_names.specs.Sets.{member}
use Rattle.tg_graph.specs.GraphOf.{graph_of}
use Rattle.tg_islands.specs.Sharing.{HeldInIsland}
use Rattle.tg_sharing.proofs.Spreads.{all_held, then_none_missing, none_among, spread-ends}
use Rattle.tg_sharing.proofs.spreading.Spread.search.Goals as goal

pub returns-then-is_empty : goal.returns-then-is_empty
returns-then-is_empty c = (λ yes. all_held c.args.graph.now c.len-count.ensures.graph c.args.asked.now c.loop-position.self.missing (sym (c.is_empty.ensures tt) ∙ c.if-is_empty.true) c.loop-position.invariant.is_missing, λ all. refl)

pub visit-requires-clause-rest : goal.visit-requires-clause-rest
visit-requires-clause-rest c = elim c.loop-position.invariant.rest [ inl none ↦ absurd (true≢false (sym none ∙ sym (c.is_empty.ensures tt) ∙ c.if-is_empty.false)) | inr rest ↦ rest ]

pub returns : goal.returns
returns c =
    let end : length (keys_of c.args.graph.now) ≤ c.loop-position.position = omega (arith, c.len-count.ensures.value, length-keys_of c.args.graph.now) in
    let missing = c.loop-position.self.missing in
    let lacking : (right : Right) → IsTrue (member missing right) → HeldInIsland (graph_of c.args.graph.now) right c.args.asked.now.x c.args.asked.now.y → ⊥ =
    λ right m held. elim c.loop-position.invariant.rest [ inl none ↦ none_among missing none right m | inr rest ↦ spread-ends c.args.graph.now c.len-count.ensures.graph c.args.asked.now c.len-count.ensures.well_formed missing c.loop-position.position c.loop-position.self end c.requires.source rest right m held ] in
    let said = c.is_empty-2.ensures tt in (
      λ none. all_held c.args.graph.now c.len-count.ensures.graph c.args.asked.now missing (sym said ∙ none) c.loop-position.invariant.is_missing,
      λ all. said ∙ then_none_missing c.args.graph.now c.len-count.ensures.graph c.args.asked.now missing c.loop-position.invariant.is_missing lacking all,
    )
