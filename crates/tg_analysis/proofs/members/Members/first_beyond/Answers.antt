use Rattle.std.proofs.Common.{◌≡◌, ◌≤◌, ◌+◌, ℕ, List, Option, Some, length, sym, ap, subst, ◌∙◌, arith}
use Rattle.tg_analysis.specs.Cases.{is_marked, place_at, IsLeastFrom}
use Rattle.tg_analysis.proofs.MemberLists.{IsPassed, passed-more, passed-end}
use Rattle.tg_analysis.proofs.members.Members.first_beyond.Goals as goal

pub loop-preserved : goal.loop-preserved
loop-preserved c = λ numbers members.
    let allowed = c.args.allowed.now in
    let number = c.args.number in
    let place = c.in_ok-place.place in
    let next : c.loop.next ≡ Some place = c.in_ok-place.was in
    let passed = subst (λ (o : Option ℕ). IsPassed numbers (is_marked allowed) number c.loop.counter o) next (c.loop.invariant numbers members) in
    let ok = sym c.is_marked.ensures ∙ c.if-not-is_marked.false in
    let told = c.place_at-next-in-loop.ensures ∙ ap (λ (places : List (Option ℕ)). place_at places place) c.deref-in-loop.ensures.value in
    passed-more numbers (is_marked allowed) number c.loop.counter place c.place_at-next-in-loop.result passed ok (subst (IsLeastFrom numbers number (place + 1)) (sym told) (members.next place number (omega arith) passed.least.1))

pub returns : goal.returns
returns c = λ numbers members.
    let len = members.len in
    let all : length numbers ≤ c.loop.counter = (let end = c.loop-test.false in omega arith) in
    passed-end numbers (is_marked c.args.allowed.now) c.args.number c.loop.counter c.loop.next all (c.loop.invariant numbers members)
