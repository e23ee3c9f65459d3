-- For the code that makes pass one of an edit, not part of what a reader believes.
use Rattle.std.specs.Prelude.{◌≡◌, [], length}
use Rattle.cps_state.specs.Keys.{first_state}
use Rattle.cps_final.specs.Changes.{no_change}
use Rattle.cps_final.specs.Code.Kept.{changes_in}
use Rattle.cps_edit.specs.Passes.{state_after}
use Rattle.cps_edit.specs.Splice.{Splice, spliced}
use Rattle.cps_chunk.specs.declared.walk.Walk.{Walk}
use Rattle.cps_chunk.specs.Replayed.{replayed_behind}
use Rattle.cps_chunk.specs.Code.Walk.{now_at}

-- nothing was gone over yet
pub record BeginsWalk (walk : Walk) : Type 0 where
  pub changes : changes_in walk.replay.log.changes ≡ no_change
  pub present : changes_in walk.replay.log.present ≡ no_change
  pub news : walk.replay.news.items ≡ []

-- all lines behind new ones were gone over
pub record IsWalked (old new : Walk) (splice : Splice) : Type 0 where
  pub news : new.replay.news.items ≡ replayed_behind old.base.lines.now splice
  pub state : now_at new (length old.base.lines.now) ≡ state_after first_state (spliced old.base.lines.now splice)
