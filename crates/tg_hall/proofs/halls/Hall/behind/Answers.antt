use Rattle.std.proofs.Common.{◌<◌, length, sym, subst, ◌∙◌, arith}
use Rattle.tg_hall.specs.Acts.{IsBehind}
use Rattle.tg_hall.specs.Seats.{seen_seat}
use Rattle.tg_hall.proofs.HallLemmas.{view_at}
use Rattle.tg_hall.proofs.halls.Hall.behind.Goals as goal

pub returns-then-taken-all-2 : goal.returns-then-taken-all-2
returns-then-taken-all-2 c =
    let h = c.self.inside in
    let s = c.index.result.now in
    let t = c.index-then-taken-all.result.now in
    let all = c.len-all.ensures ∙ h.records.ok.0 in
    let left : s.taken < length h.records.items = omega (arith, all, c.taken.ensures, c.if-taken-all.true) in
    subst (λ w. IsBehind w c.args.seat c.in_ok-index.index c.in_ok-other.other) c.self.view_is
    (record {
      seat = seen_seat s;
      source = seen_seat t;
      number = c.in_ok-index.ensures.0;
      seat_is = view_at h c.in_ok-index.index c.len.result s c.in_ok-index.ensures.1 (c.len.ensures ∙ h.seats.ok.0) c.index.ensures;
      source_is = view_at h c.in_ok-other.other c.len-2.result t c.in_ok-other.ensures.1 (c.len-2.ensures ∙ h.seats.ok.0) c.index-then-taken-all.ensures;
      some_left = left;
      none_left = sym c.taken-then-taken-all.ensures ∙ c.if-taken-all-2.true ∙ all;
    })
