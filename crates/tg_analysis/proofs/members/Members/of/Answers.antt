use Rattle.std.proofs.Common.{◌≡◌, ℕ, ◌+◌, ◌-◌, ◌<◌, Option, None, length, replicate, get_or, subst, ap, ◌∙◌, arith, rules}
use Rattle.std.proofs.lemmas.List.{length-replicate}
use Rattle.std.proofs.lemmas.Option.{slice_get-get_or}
use Rattle.tg_analysis.specs.Cases.{AreMembersFrom, place_at}
use Rattle.tg_analysis.proofs.MemberLists.{members-none, empty-places}
use Rattle.tg_analysis.proofs.members.Members.of.Goals as goal

pub loop-done-init : goal.loop-done-init
loop-done-init c =
    let numbers = c.args.numbers.now in
    let firsts = c.in_ok-vec.field-0.items in
    let nexts = c.in_ok-vec-2.field-0.items in
    let empty : firsts ≡ replicate c.args.count None = search rules in
    let unlinked : nexts ≡ replicate (length numbers) None = search rules in
    let len : length nexts ≡ length numbers = ap length unlinked ∙ length-replicate {A = Option ℕ} (length numbers) None in
    let end : length numbers ≡ length numbers - 0 = omega arith in
    record {
      members = subst (λ n. AreMembersFrom numbers n firsts nexts) end (members-none numbers firsts nexts len (λ n. ap (λ places. place_at places n) empty ∙ empty-places c.args.count n));
      len = ap length empty ∙ length-replicate {A = Option ℕ} c.args.count None;
    }

pub put-requires-clause-number : goal.put-requires-clause-number
put-requires-clause-number c =
    let numbers = c.args.numbers.now in
    let some = c.loop-done-test.true in
    let place = length numbers - 1 - c.loop-done.done in
    let low : place < length numbers = omega arith in
    let below = c.requires place (get_or numbers place 0) (slice_get-get_or numbers place 0 low) in
    let len = c.loop-done.invariant.len in
    omega arith

pub put-requires-clause-so_far : goal.put-requires-clause-so_far
put-requires-clause-so_far c =
    let numbers = c.args.numbers.now in
    let members = c.loop-done.members in
    let done = c.loop-done.done in
    let some = c.loop-done-test.true in
    let same : length numbers - done ≡ length numbers - 1 - done + 1 = omega arith in
    subst (λ n. AreMembersFrom numbers n members.firsts.items members.nexts.items) same c.loop-done.invariant.members
