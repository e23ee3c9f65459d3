-- What an edit makes of its division, by what the division's functions say of what they give.
use Rattle.std.proofs.Common.{arith, ◌≡◌, ℕ, ◌+◌, ◌-◌, ◌≤◌, subst, List, length, take}
use Rattle.std.specs.Prelude.{sum, slice_range}
use Rattle.cps_chunk.specs.Division.{AreChunks, IsDivision}
use Rattle.cps_chunk.specs.Recut.{recut}
use Rattle.cps_chunk.specs.Staying.{IsTight}
use Rattle.cps_edit.specs.Splice.{Splice}
use Rattle.cps_chunk.specs.Code.Recuts.{Recuts}
use Rattle.cps_chunk.proofs.CutLemmas.{sum-part}

pub planned : (lines : List (List ℕ)) (splice : Splice) (start end before : ℕ) (ns olds : List ℕ) → splice.keep ≤ splice.from → splice.from ≤ length lines → IsDivision (length lines) olds
    → AreChunks (recut start end ns olds) → start ≤ end → end ≤ length olds → before ≡ sum (take start olds) → before ≤ splice.keep → splice.from ≤ sum (take end olds)
    → IsTight splice.keep (sum olds - splice.from) start end ns olds → sum ns + (splice.from - splice.keep) ≡ sum (slice_range olds start end) + length splice.new
    → Recuts lines splice start end ns olds
planned lines splice start end before ns olds order within division made ordered ends_within b begins ends tight count = record {
  order = order;
  within = within;
  total = division.total;
  chunks = division.chunks;
  made = made;
  ordered = ordered;
  ends_within = ends_within;
  begins = omega (arith, b, begins);
  ends = ends;
  tight = subst (λ (n : ℕ). IsTight splice.keep (n - splice.from) start end ns olds) division.total tight;
  count = omega (arith, sum-part start end olds ordered, count, b, begins, ends, order);
}
