use Rattle.std.proofs.Common.{◌≡◌, ◌≤◌, [], replicate, vec_len, vec_capacity}
use Rattle.tg_islands.proofs.links.Links.none.Given as goal

abbrev pub invariant-loop : goal.invariant-loop
invariant-loop l = record {
  items : l.near.items ≡ replicate l.counter [];
  len : vec_len l.near ≡ l.counter;
  room : l.count ≤ vec_capacity l.near;
}
