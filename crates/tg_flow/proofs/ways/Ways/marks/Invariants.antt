use Rattle.std.proofs.Common.{◌≡◌, length, map}
use Rattle.std.specs.Prelude.{take, is_some}
use Rattle.tg_flow.proofs.ways.Ways.marks.Given as goal

abbrev pub invariant-loop-position : goal.invariant-loop-position
invariant-loop-position l =
    record {
      marks : l.marks.items ≡ take l.position (map is_some l.self);
      end : l.position-end ≡ length l.self;
    }
