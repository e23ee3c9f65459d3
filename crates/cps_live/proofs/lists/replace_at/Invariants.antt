use Rattle.std.proofs.Common.{◌≡◌, ◌+◌, ◌≤◌, ◌++◌, take, drop, vec_len}
use Rattle.cps_live.proofs.lists.replace_at.Given as goal

abbrev pub invariant-loop-item : goal.invariant-loop-item
invariant-loop-item g l = record {
  left : l.news.items ≡ take (vec_len l.news) l.fn.news.items;
  few : vec_len l.news ≤ vec_len l.fn.news;
  items : l.items.items ≡ take (l.keep + vec_len l.news) l.fn.items.items ++ (drop (vec_len l.news) l.fn.news.items ++ drop (l.keep + vec_len l.fn.news) l.fn.items.items);
  room : l.keep + vec_len l.fn.news ≤ vec_len l.items;
}

abbrev pub decreases-loop-item : goal.decreases-loop-item
decreases-loop-item g l = vec_len l.news
