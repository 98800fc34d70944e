use Rattle.tg_store.proofs.RunningSessions.{commit-after, further-after}
use Rattle.tg_store.proofs.running_sessions.Session.commit.Goals as goal

pub returns-in-Over : goal.returns-in-Over
returns-in-Over c = commit-after c.args.self c.loop-committed.session c.in-Over.committed c.loop-committed.invariant c.in-Over.ensures.0

pub loop-committed-preserved : goal.loop-committed-preserved
loop-committed-preserved c = further-after c.args.self c.loop-committed.session c.in-Further.next c.loop-committed.invariant c.in-Further.ensures.0
