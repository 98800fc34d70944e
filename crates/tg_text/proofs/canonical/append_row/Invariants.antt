use Rattle.std.proofs.Common.{◌≡◌, ◌+◌, ◌-◌, ◌*◌, ◌≤◌, ◌++◌, take, vec_len, vec_capacity}
use Rattle.std.specs.List.{flat_map}
use Rattle.tg_rows.specs.Rows.{row_number}
use Rattle.tg_text.proofs.RowLines.{edge_of}
use Rattle.tg_text.proofs.canonical.append_row.Given as goal

abbrev pub invariant-loop-place : goal.invariant-loop-place
invariant-loop-place l = record {
  items : l.text.items ≡ l.fn.text.items ++ flat_map (edge_of l.fn.source) (take l.place (row_number l.graph l.position));
  room : vec_len l.text + (l.count - l.place) * 47 ≤ vec_capacity l.text;
}
