use Rattle.std.proofs.Common.{◌≡◌, vec_len, vec_capacity}
use Rattle.cps_chunk.specs.Sparse.{renewed, AreWithin}
use Rattle.cps_chunk.proofs.sparse.put_all.Given as goal

abbrev pub invariant-loop-new : goal.invariant-loop-new
invariant-loop-new g l = record {
  rest : renewed 0 l.news.items l.items.items ≡ renewed 0 l.fn.news.items l.fn.items.items;
  within : AreWithin 0 (vec_len l.items) l.news.items;
  len : vec_len l.items ≡ vec_len l.fn.items;
  room : vec_capacity l.items ≡ vec_capacity l.fn.items;
}

abbrev pub decreases-loop-new : goal.decreases-loop-new
decreases-loop-new g l = vec_len l.news
