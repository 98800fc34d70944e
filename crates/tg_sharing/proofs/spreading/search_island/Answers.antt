use Rattle.std.proofs.Common.{◌<◌, ◌^◌, ◌⊎◌, Bool, IsTrue, MatchBool, inl, inr, length, refl, sym, subst, ◌∙◌, true≢false, arith}
use Rattle.std.specs.Map.{keys_of}
use Rattle.std.proofs.lemmas.Map.Entries.{length-keys_of}
use Rattle.tg_names.specs.Sets.{is_empty_set}
use Rattle.tg_graph.specs.GraphOf.{graph_of}
use Rattle.tg_rows.specs.Rows.{Entries}
use Rattle.tg_graph.proofs.Positions.{at-position}
use Rattle.tg_sharing.specs.declared.spreading.Asked.{Asked}
use Rattle.tg_sharing.specs.declared.spreading.Spread.{Spread}
use Rattle.tg_sharing.specs.Spreading.{AreHeldInIsland, RunsOut}
use Rattle.tg_islands.proofs.Places.{position-none}
use Rattle.tg_sharing.proofs.Spreads.{spread-begins, all_held}
use Rattle.tg_sharing.proofs.spreading.search_island.Goals as goal

-- how the flood went on from x: hopeless, or to its end
abbrev HasGone : Entries → Asked → Spread → Spread → Bool → Type 0
HasGone es asked old new hopeless = MatchBool hopeless (AreHeldInIsland es asked → ⊥) (IsTrue (is_empty_set new.missing) ⊎ RunsOut es asked new.missing old new)

pub go_on-requires-clause-spread : goal.go_on-requires-clause-spread
go_on-requires-clause-spread c = spread-begins c.args.graph.now c.len-count.ensures.graph c.args.asked.now c.in_ok-spread-in-Some.spread.missing c.args.asked.now.rights c.len-count.result c.in-Some.start c.in_ok-spread-in-Some.spread (c.len-count.ensures.value ∙ sym (length-keys_of c.args.graph.now)) (at-position (keys_of c.args.graph.now) c.args.asked.now.x c.in-Some.start (sym c.position.ensures ∙ c.in-Some.is)) c.in_ok-spread-in-Some.ensures

pub returns-then-branch : goal.returns-then-branch
returns-then-branch c =
    let few : length (keys_of c.args.graph.now) < 2 ^ 64 = omega (arith, c.len-count.type_inv, c.len-count.ensures.value, length-keys_of c.args.graph.now) in
    let shared = c.together.ensures (graph_of c.args.graph.now) c.args.asked.now.rights c.args.asked.now.x c.args.asked.now.y c.len-count.ensures.well_formed few c.requires.source c.requires.target in
    let hopeless = subst (HasGone c.args.graph.now c.args.asked.now c.in_ok-spread-in-Some.spread c.go_on.new.self) c.if-branch.true c.in_ok-go_on-in-Some.ensures.end in
    (λ h. absurd (true≢false (sym h)), λ all. absurd (hopeless (shared.0 all)))

pub returns-then-is_empty-2 : goal.returns-then-is_empty-2
returns-then-is_empty-2 c =
    let few : length (keys_of c.args.graph.now) < 2 ^ 64 = omega (arith, c.len-count.type_inv, c.len-count.ensures.value, length-keys_of c.args.graph.now) in
    let shared = c.together.ensures (graph_of c.args.graph.now) c.args.asked.now.rights c.args.asked.now.x c.args.asked.now.y c.len-count.ensures.well_formed few c.requires.source c.requires.target in
    (λ yes. shared.1 (all_held c.args.graph.now c.len-count.ensures.graph c.args.asked.now c.go_on.new.self.missing (sym (c.is_empty-in-Some.ensures tt) ∙ c.if-is_empty-2.true) c.in_ok-go_on-in-Some.ensures.missing), λ all. refl)

pub search-requires-clause-spread : goal.search-requires-clause-spread
search-requires-clause-spread c =
    let gone = subst (HasGone c.args.graph.now c.args.asked.now c.in_ok-spread-in-Some.spread c.go_on.new.self) c.if-branch.false c.in_ok-go_on-in-Some.ensures.end in
    elim gone [ inl none ↦ absurd (true≢false (sym none ∙ sym (c.is_empty-in-Some.ensures tt) ∙ c.if-is_empty-2.false)) | inr ran ↦ ran.is_spread ]

pub search-requires-clause-calm : goal.search-requires-clause-calm
search-requires-clause-calm c =
    let gone = subst (HasGone c.args.graph.now c.args.asked.now c.in_ok-spread-in-Some.spread c.go_on.new.self) c.if-branch.false c.in_ok-go_on-in-Some.ensures.end in
    elim gone [ inl none ↦ absurd (true≢false (sym none ∙ sym (c.is_empty-in-Some.ensures tt) ∙ c.if-is_empty-2.false)) | inr ran ↦ ran.calm ]

pub returns-in_ok-found-in-Some : goal.returns-in_ok-found-in-Some
returns-in_ok-found-in-Some c =
    let few : length (keys_of c.args.graph.now) < 2 ^ 64 = omega (arith, c.len-count.type_inv, c.len-count.ensures.value, length-keys_of c.args.graph.now) in
    let shared = c.together.ensures (graph_of c.args.graph.now) c.args.asked.now.rights c.args.asked.now.x c.args.asked.now.y c.len-count.ensures.well_formed few c.requires.source c.requires.target in
    let found = c.in_ok-found-in-Some.ensures in
    (λ yes. shared.1 (found.0 yes), λ all. found.1 (shared.0 all))

pub returns-in-None : goal.returns-in-None
returns-in-None c = absurd (position-none (keys_of c.args.graph.now) c.args.asked.now.x c.requires.source (sym c.position.ensures ∙ c.in-None.is))
