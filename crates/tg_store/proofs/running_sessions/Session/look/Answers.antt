use Rattle.std.proofs.Common.{◌≡◌, length, sym, subst}
use Rattle.tg_store.specs.declared.outcomes.Committed.TheVariants.{Refused}
use Rattle.tg_store.specs.declared.outcomes.CommitFault.TheVariants.{Foreign}
use Rattle.tg_store.specs.Running.{RunningSession}
use Rattle.tg_store.specs.Looks.{LookSays}
use Rattle.tg_store.specs.Outcomes.{CommitSays}
use Rattle.tg_store.proofs.RunningSessions.{look-foreign}
use Rattle.tg_store.proofs.running_sessions.Session.look.Goals as goal

pub returns-in-Foreign : goal.returns-in-Foreign
returns-in-Foreign c =
    let s = c.self.inside.seat in
    let u = c.look.new.self in
    let all = subst (λ (s : RunningSession). s.seat.taken ≡ length s.seat.pass.seen) (sym c.self.view_is) c.requires.all in (
      subst (λ s. CommitSays s (Refused u (Foreign c.in-Foreign.place))) c.self.view_is
          (look-foreign s u c.self.inside.staged.kept.items c.in-Foreign.place all (subst (λ look. LookSays s look u) c.in-Foreign.is c.look.ensures)),
      tt,
    )
