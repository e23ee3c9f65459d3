-- For the code that goes over lines, not part of what a reader believes: what stands behind them so far.
use Rattle.std.specs.Prelude.{◌≡◌, ℕ, List, [], ◌∷◌, ◌++◌, None, unwrap_or}
use Rattle.cps_state.specs.Course.{Trace}
use Rattle.cps_state.specs.declared.key.Key.{Key}
use Rattle.cps_state.specs.declared.key.Put.{Put}
use Rattle.cps_state.specs.Keys.{State}
use Rattle.cps_final.specs.Changes.{Changed, changed}
use Rattle.cps_final.specs.Code.Kept.{changes_in}
use Rattle.cps_edit.specs.Passes.{after}
use Rattle.cps_chunk.specs.Code.Compared.{compared, with_all_kept, with_difference, with_kept, with_puts}
use Rattle.cps_chunk.specs.Noted.{last_puts, noted}
use Rattle.cps_chunk.specs.Replayed.{replayed}
use Rattle.cps_chunk.specs.declared.change_log.ChangeLog.{ChangeLog}
use Rattle.cps_chunk.specs.declared.replay.OldLine.{OldLine}
use Rattle.cps_chunk.specs.declared.replay.Replay.{Replay}
use Rattle.cps_chunk.specs.declared.sparse.SparseItem.{SparseItem}

-- what stands now where that stood before: behind the lines that were gone over, and behind the present ones too
abbrev pub now_by : ChangeLog → State → State
now_by log before = changed (changes_in log.changes) before

abbrev pub now_with : ChangeLog → State → State
now_with log before = changed (changes_in log.present) (now_by log before)

-- the present lines put these more, and no other key is changed
pub record PutsAlso (old new : ChangeLog) (puts : List Put) : Type 0 where
  pub present : changes_in new.present ≡ with_puts (changes_in old.present) puts
  pub changes : new.changes ≡ old.changes

-- what the present lines put, and what lines in their place put before
abbrev pub present_in : ChangeLog → Changed
present_in log = changes_in log.present

abbrev pub former_in : ChangeLog → Changed
former_in log = changes_in log.former

-- what stood where the present lines end, if that stood in front of them
abbrev pub was_by : ChangeLog → State → State
was_by log before = changed (former_in log) before

-- what stands at the keys of the present lines once puts that were there are taken in, or one key: what stood in front of them, where they put nothing
abbrev pub present_with : ChangeLog → List Put → State → Changed
present_with log puts before = with_all_kept (present_in log) puts (now_by log before)

abbrev pub present_at : ChangeLog → Key → State → Changed
present_at log key before = with_kept (present_in log) key (now_by log before key)

-- present lines that have put some put these more
abbrev pub Puts : ChangeLog → ChangeLog → List Put → Type 0
Puts old new puts = (news : List Put) → present_in old ≡ last_puts news → present_in new ≡ last_puts (news ++ puts)

-- present lines that have put some end; lines in their place put these before, and that stood in front of them
abbrev pub Closes : ChangeLog → ChangeLog → State → List Put → Type 0
Closes old new before gone = (news : List Put) → present_in old ≡ last_puts news → changes_in new.changes ≡ noted (changes_in old.changes) before gone news

-- what is changed once all keys of the present lines are compared
abbrev pub all_compared : ChangeLog → State → Changed
all_compared log before = compared (changes_in log.changes) (present_in log) (was_by log before)

-- and once one key is
abbrev pub compared_at : ChangeLog → State → Key → Changed
compared_at log before key = with_difference (changes_in log.changes) key (unwrap_or (present_in log key) None) (was_by log before key)

-- these lines are made anew behind those so far
abbrev pub RenewsAlso : Replay → Replay → List (SparseItem Trace) → Type 0
RenewsAlso old new made = new.news.items ≡ old.news.items ++ made

-- an old line, if it is made anew where that stands in front of it
abbrev pub replayed_at : State → OldLine → List (SparseItem Trace)
replayed_at state old = replayed state old.at (old.line.now ∷ []) (old.trace.now ∷ [])

-- a line was gone over, in front of which that stood
abbrev pub GoesBehind : ChangeLog → ChangeLog → State → List ℕ → Type 0
GoesBehind old new before line = now_by new (after before line) ≡ after (now_by old before) line
