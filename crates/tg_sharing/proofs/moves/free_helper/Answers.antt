use Rattle.std.proofs.Common.{◌≡◌, ℕ, ◌+◌, ◌<◌, ◌≤◌, true, length, sym, ap, ◌∙◌, arith}
use Rattle.tg_names.specs.Names.{helper_name}
use Rattle.tg_graph.specs.Graphs.{has_vertex}
use Rattle.tg_graph.specs.GraphOf.{graph_of}
use Rattle.tg_islands.proofs.Helpers.{used_next, helpers_within}
use Rattle.tg_sharing.proofs.moves.free_helper.Goals as goal

-- the helpers up to the one that was tried are in use
used : (c : goal.In-loop-number) (k : ℕ) → c.args.next ≤ k → k < c.loop-number.number + 1 → has_vertex (graph_of c.args.graph.now) (helper_name k) ≡ true
used c =
    used_next (λ k. has_vertex (graph_of c.args.graph.now) (helper_name k)) c.args.next c.loop-number.number c.loop-number.invariant.used
    (ap (has_vertex (graph_of c.args.graph.now)) (sym c.helper.ensures) ∙ sym c.knows.ensures ∙ c.loop-number-test.true)

within : (c : goal.In-loop-number) → c.loop-number.number + 1 ≤ c.args.next + length c.args.graph.now
within c = helpers_within c.args.graph.now c.args.next c.loop-number.number (omega arith) (used c)

pub overflow_add-number : goal.overflow_add-number
overflow_add-number c = let w = within c in omega arith

pub loop-number-smaller : goal.loop-number-smaller
loop-number-smaller c = let w = within c in omega arith

pub loop-number-preserved : goal.loop-number-preserved
loop-number-preserved c = record { from = omega arith; within = within c; used = used c }
