use Rattle.std.proofs.Common.{◌≡◌, length, take}
use Rattle.tg_names.specs.Names.{Name}
use Rattle.tg_policies.specs.Policies.{some_stands_for}
use Rattle.tg_policies.specs.PolicyParts.{is_marked_name, membership}
use Rattle.tg_policies.proofs.groups.Groups.marks_of.Given as goal

abbrev pub invariant-loop-operand : goal.invariant-loop-operand
invariant-loop-operand l = record {
  len : length l.marks.items ≡ length l.names;
  each : (v : Name) → is_marked_name l.names l.marks.items v ≡ some_stands_for (membership l.names l.self) (take l.operand-index l.operands) v;
}
