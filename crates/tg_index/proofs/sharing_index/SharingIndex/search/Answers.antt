use Rattle.tg_graph.specs.GraphOf.{graph_of}
use Rattle.tg_sharing.proofs.OneRight.{the_one, as_set}
use Rattle.tg_index.proofs.sharing_index.SharingIndex.search.Goals as goal

pub returns-clause-exact : goal.returns-clause-exact
returns-clause-exact c =
    let g = graph_of c.args.graph.now in
    let answer = c.in_ok-answer.ensures in (
      λ yes. the_one g c.args.right c.of-rights.result c.args.x c.args.y c.of-rights.ensures.bit (answer.0 yes),
      λ shared. answer.1 (as_set g c.args.right c.of-rights.result c.args.x c.args.y c.of-rights.ensures.bit shared),
    )
