use Rattle.std.proofs.Common.{length, arith}
use Rattle.tg_rows.specs.Rows.{row_number}
use Rattle.tg_index.proofs.IslandEdges.{edge-within}
use Rattle.tg_analysis.proofs.Gathered.{gathers-row}
use Rattle.tg_analysis.proofs.gathering.gather.Goals as goal

pub loop-position-preserved : goal.loop-position-preserved
loop-position-preserved c =
    gathers-row c.args.graph.now c.args.islands.now c.args.right c.args.first c.loop-position.position (length (row_number c.args.graph.now c.loop-position.position)) c.loop-position.held c.add_row.new.held (omega arith) c.loop-position.invariant c.in_ok-add_row.ensures (λ number b place e. edge-within c.args.graph.now c.args.islands.now c.args.right number b c.loop-position.position place e)
