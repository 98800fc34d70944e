use Rattle.std.proofs.Common.{sym, subst, ◌∙◌}
use Rattle.tg_sharing.specs.Spreading.{IsMissing, AreHeldInIsland, IsSpread}
use Rattle.tg_sharing.proofs.Spreads.{spread-reads, reads_missing, reads_back_len, rests-unless}
use Rattle.tg_sharing.proofs.spreading.Spread.visit.Goals as goal

pub go_on-requires-clause-missing : goal.go_on-requires-clause-missing
go_on-requires-clause-missing c = subst (λ left. IsMissing c.args.graph.now c.args.asked.now left) (sym (reads_missing c.args.graph.now c.args.position c.args.self.now c.read_row.new.self c.in_ok-read_row.ensures)) c.requires.missing

pub go_on-requires-clause-spread : goal.go_on-requires-clause-spread
go_on-requires-clause-spread c =
    let read = spread-reads c.args.graph.now c.requires.graph c.args.asked.now c.args.position c.args.self.now.missing c.args.self.now c.read_row.new.self c.requires.rest.is_spread c.requires.rest.calm c.requires.rest.read c.in_ok-read_row.ensures in
    subst (λ left. IsSpread c.args.graph.now c.args.asked.now left c.read_row.new.self.flood.waiting.items c.read_row.new.self) (sym (reads_missing c.args.graph.now c.args.position c.args.self.now c.read_row.new.self c.in_ok-read_row.ensures)) read.0

pub returns-clause-rest : goal.returns-clause-rest
returns-clause-rest c =
    let read = spread-reads c.args.graph.now c.requires.graph c.args.asked.now c.args.position c.args.self.now.missing c.args.self.now c.read_row.new.self c.requires.rest.is_spread c.requires.rest.calm c.requires.rest.read c.in_ok-read_row.ensures in
    rests-unless c.args.graph.now c.requires.graph c.args.asked.now c.args.position (AreHeldInIsland c.args.graph.now c.args.asked.now → ⊥) c.go_on.new.self.missing c.read_row.new.self c.go_on.new.self (reads_back_len c.args.graph.now c.args.position c.args.self.now c.read_row.new.self c.in_ok-read_row.ensures ∙ c.requires.rest.back_len) read.1 c.in_ok-hopeless.hopeless c.in_ok-hopeless.ensures.end
