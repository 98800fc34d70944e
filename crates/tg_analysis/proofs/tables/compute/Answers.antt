use Rattle.std.proofs.Common.{◌<◌, ◌^◌, length, arith, sym, subst}
use Rattle.std.specs.Map.{keys_of}
use Rattle.std.proofs.lemmas.Map.Entries.{length-keys_of}
use Rattle.tg_analysis.specs.Gathered.{Gathers}
use Rattle.tg_analysis.proofs.Gathered.{table-exact}
use Rattle.tg_analysis.proofs.tables.compute.Goals as goal

pub returns : goal.returns
returns g c =
    let few : length (keys_of c.args.graph.now) < 2 ^ 64 = omega (arith, c.requires.small, length-keys_of c.args.graph.now) in
    table-exact c.args.graph.now c.len.ensures.graph c.len.ensures.well_formed c.shared_exactly.ensures few c.in_ok-islands.islands c.in_ok-islands.ensures c.args.right c.in_ok-held.held (subst (λ n. Gathers c.args.graph.now c.in_ok-islands.islands c.args.right 0 n c.in_ok-held.held) (sym (length-keys_of c.args.graph.now)) c.in_ok-held.ensures)
