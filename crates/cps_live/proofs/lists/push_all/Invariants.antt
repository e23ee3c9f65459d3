use Rattle.std.proofs.Common.{◌≡◌, ◌+◌, ◌≤◌, ◌++◌, vec_len, vec_capacity}
use Rattle.cps_live.proofs.lists.push_all.Given as goal

abbrev pub invariant-loop-item : goal.invariant-loop-item
invariant-loop-item g l = record {
  items : l.items.items ++ l.item-iterator.rest.items ≡ l.fn.items.items ++ l.fn.news.items;
  room : vec_len l.items + l.item-iterator.rest.len ≤ vec_capacity l.items;
}
