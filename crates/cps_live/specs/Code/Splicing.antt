-- For the session, not part of what a reader believes: an edit, and what it makes of the chunks.
use Rattle.std.specs.Prelude.{◌≡◌, ℕ, ◌+◌, ◌-◌, ◌≤◌, List, length, take, sum, slice_range}
use Rattle.cps_chunk.specs.Division.{AreChunks}
use Rattle.cps_edit.specs.Splice.{Splice}
use Rattle.cps_live.specs.Code.ChunkList.{IsDivided}
use Rattle.cps_live.specs.Code.Editing.{splice_of}
use Rattle.cps_chunk.specs.declared.put.ChunkSplice.{ChunkSplice}

-- a splice makes this edit, and chunks of the new lengths of those of the old ones
pub record IsSpliceFor (edit : Splice) (olds news : List ℕ) (cut : ChunkSplice) : Type 0 where
  pub lines : splice_of cut ≡ edit
  pub order : edit.keep ≤ edit.from
  pub divided : IsDivided edit.keep edit.from cut.start cut.end cut.lengths.items olds news
  pub before : cut.before ≡ sum (take cut.start olds)
  pub behind : cut.behind ≡ sum (take cut.end olds)
  pub count : sum cut.lengths.items + (edit.from - edit.keep) ≡ sum (slice_range olds cut.start cut.end) + length edit.new
  pub chunks : AreChunks news
