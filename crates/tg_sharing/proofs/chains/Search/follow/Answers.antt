use Rattle.std.proofs.Common.{◌+◌, refl, arith}
use Rattle.tg_graph.specs.GraphOf.{graph_of}
use Rattle.tg_sharing.proofs.Searched.{searches-round}
use Rattle.tg_sharing.proofs.chains.Search.follow.Goals as goal

pub returns-clause-on : goal.returns-clause-on
returns-clause-on c =
    searches-round (graph_of c.args.graph.now) c.args.self.now (record c.args.self.now { met = c.go_round.new.met; rounds = c.args.place + 1 }) c.args.place c.args.vertex c.requires.searching c.requires.here (omega arith) c.in_ok-go_round.ensures refl refl refl
