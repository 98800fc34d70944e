use Rattle.std.proofs.Common.{Vec, Global, ◌+◌, ◌<◌, length, arith, sym, subst, ◌∙◌}
use Rattle.std.specs.Map.{keys_of}
use Rattle.std.proofs.lemmas.Map.Entries.{length-keys_of}
use Rattle.tg_names.specs.Names.{Name}
use Rattle.tg_cuts.proofs.LossRules.{SourcesUpTo, sources-none, source-found, source-missing, sources-whole}
use Rattle.tg_cuts.proofs.losses.sources_in_order.Goals as goal
use Rattle.tg_cuts.proofs.losses.sources_in_order.Goals.{in-Some+in_ok-push, in_default}

pub loop-position-init : goal.loop-position-init
loop-position-init c = sources-none c.args.graph.now c.in_ok-names.names.items c.in_ok-names.ensures.items

pub loop-position-preserved : goal.loop-position-preserved
loop-position-preserved c =
    let es = c.args.graph.now in
    let position = c.loop-position.position in
    let low : position < length (keys_of es) = omega (arith, length-keys_of es, c.len-position-end.ensures.value) in
    let so_far = c.loop-position.invariant in
    elim c.match-source_at.branch [
      | in-Some+in_ok-push w ↦
          subst (λ (v : Vec Name Global). SourcesUpTo es (position + 1) v.items) (sym w.names-is)
          (source-found es c.len-position-end.ensures.graph position low c.loop-position.names.items _ so_far w.in-Some.name w.in-Some.ensures w.in_ok-push.ensures.items)
      | in_default w ↦
          subst (λ (v : Vec Name Global). SourcesUpTo es (position + 1) v.items) (sym w.names-is)
          (source-missing es c.len-position-end.ensures.graph position low c.loop-position.names.items so_far (sym c.source_at.ensures ∙ w.in_default.is))
    ]

pub returns : goal.returns
returns c =
    let es = c.args.graph.now in
    sources-whole es c.loop-position.position c.loop-position.names.items _ (omega (arith, length-keys_of es, c.len-position-end.ensures.value)) c.loop-position.invariant c.sort_unstable.ensures.permutation c.sort_unstable.ensures.sorted
