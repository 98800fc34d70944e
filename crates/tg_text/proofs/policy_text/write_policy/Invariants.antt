use Rattle.std.proofs.Common.{◌≡◌, take}
use Rattle.tg_text.specs.PolicyText.{policy_of}
use Rattle.tg_text.specs.PolicyTrips.{lines_of_policy}
use Rattle.tg_text.proofs.policy_text.write_policy.Given as goal

abbrev pub invariant-loop-line : goal.invariant-loop-line
invariant-loop-line l = l.text.items ≡ lines_of_policy (policy_of (take l.line-index l.lines))
