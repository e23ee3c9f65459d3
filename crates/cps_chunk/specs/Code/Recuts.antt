-- For the code that makes an edit, not part of what a reader believes: what an edit of a source makes of its division.
use Rattle.std.specs.Prelude.{◌≡◌, ℕ, ◌+◌, ◌-◌, ◌≤◌, List, length, take, sum}
use Rattle.cps_chunk.specs.Division.{AreChunks}
use Rattle.cps_chunk.specs.Recut.{recut}
use Rattle.cps_chunk.specs.Staying.{IsTight}
use Rattle.cps_edit.specs.Splice.{Splice}

-- chunks of the new lengths come in the place of those from one number on, up to another
pub record Recuts (lines : List (List ℕ)) (splice : Splice) (start end : ℕ) (ns olds : List ℕ) : Type 0 where
  pub order : splice.keep ≤ splice.from
  pub within : splice.from ≤ length lines
  pub total : sum olds ≡ length lines
  pub chunks : AreChunks olds
  pub made : AreChunks (recut start end ns olds)
  pub ordered : start ≤ end
  pub ends_within : end ≤ length olds
  pub begins : sum (take start olds) ≤ splice.keep
  pub ends : splice.from ≤ sum (take end olds)
  pub tight : IsTight splice.keep (length lines - splice.from) start end ns olds
  pub count : sum ns ≡ (splice.keep - sum (take start olds)) + (length splice.new + (sum (take end olds) - splice.from))
