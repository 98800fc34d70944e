use Rattle.std.proofs.Common.{◌≡◌, refl, sym, ap, ◌∙◌, subst}
use Rattle.tg_store.specs.Running.{RunningSeat}
use Rattle.tg_store.specs.Looks.{LookSays}
use Rattle.tg_store.proofs.RunningSeats.{looked, look-says}
use Rattle.tg_store.proofs.running_seats.Seat.look.Goals as goal
use Rattle.tg_store.proofs.running_seats.Seat.look.Goals.{in-Entry, in-End, in-Foreign}

pub invariant_of-self : goal.invariant_of-self
invariant_of-self c =
    let i = c.self.inside in
    let s : RunningSeat = record { opening = i.opening.value; pass = i.pass; taken = i.taken; graph = i.graph } in
    let t : RunningSeat = record { opening = i.opening.value; pass = c.next.new.pass; taken = i.taken; graph = i.graph } in
    let e = c.next.ensures in
    let says : LookSays s (looked c.next.result) t = look-says c.next.result (looked c.next.result) s t refl refl refl refl e.number e.cells e.mine e.known e.pass e.seen c.self.invariant in
    says.seat

pub returns : goal.returns
returns c =
    let i = c.self.inside in
    let s : RunningSeat = record { opening = i.opening.value; pass = i.pass; taken = i.taken; graph = i.graph } in
    let t : RunningSeat = record { opening = i.opening.value; pass = c.next.new.pass; taken = i.taken; graph = i.graph } in
    let e = c.next.ensures in
    let is : c.match-next.result ≡ looked c.next.result =
    elim c.match-next.branch [
      | in-Entry w ↦ w.result-is ∙ sym (ap looked w.in-Entry.is)
      | in-End w ↦ w.result-is ∙ sym (ap looked w.in-End.is)
      | in-Foreign w ↦ w.result-is ∙ sym (ap looked w.in-Foreign.is)
    ] in
    subst (λ (s : RunningSeat). LookSays s c.match-next.result t) c.self.view_is
    (look-says c.next.result c.match-next.result s t is refl refl refl e.number e.cells e.mine e.known e.pass e.seen c.self.invariant)
