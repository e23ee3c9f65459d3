-- For the code that makes pass one of a move, not part of what a reader believes: two runs of lines are gone over, the second in front of the first.
use Rattle.std.specs.Prelude.{◌≡◌, ℕ, ◌+◌, List, ◌++◌, length}
use Rattle.cps_state.specs.Keys.{first_state}
use Rattle.cps_final.specs.Changes.{no_change}
use Rattle.cps_final.specs.Code.Kept.{changes_in}
use Rattle.cps_edit.specs.declared.exchange.Exchange.{Exchange}
use Rattle.cps_edit.specs.Exchange.{exchange_at, exchanged}
use Rattle.cps_edit.specs.Passes.{state_after}
use Rattle.cps_chunk.specs.Code.Chunk.{lengths_of}
use Rattle.cps_chunk.specs.Code.Along.{looks_along, span}
use Rattle.cps_chunk.specs.Code.Moved.{state_past, first_replayed, second_replayed, behind_replayed}
use Rattle.cps_chunk.specs.Code.Walk.{now_at}
use Rattle.cps_chunk.specs.declared.walk.Span.{Span}
use Rattle.cps_chunk.specs.declared.walk.Walk.{Walk}
use Rattle.cps_chunk.specs.Code.MoveLooks.{stands_moved}

-- how many lines of both runs are disturbed in pass one
abbrev pub ones_of_runs : List (List ℕ) → Exchange → ℕ
ones_of_runs lines e = length (second_replayed lines e) + length (first_replayed lines e)

-- which of them change places, so that they stand in the old order
abbrev pub order_of : List (List ℕ) → Exchange → Exchange
order_of lines e = exchange_at 0 (length (second_replayed lines e)) (ones_of_runs lines e)

-- both runs were gone over
pub record IsCrossed (old new : Walk) (e : Exchange) : Type 0 where
  pub news : new.replay.news.items ≡ second_replayed old.base.lines.now e ++ first_replayed old.base.lines.now e
  pub state : now_at new e.from ≡ state_past old.base.lines.now e
  pub present : changes_in new.replay.log.present ≡ no_change

-- and how many of their lines were compared
abbrev pub looks_of_span : Walk → Exchange → Span → ℕ
looks_of_span walk e lines = looks_along lines (lengths_of walk.chunks.items) 0 (stands_moved walk.base.lines.now e) walk.base.traces.now

abbrev pub looks_of_runs : Walk → Exchange → ℕ
looks_of_runs walk e = looks_of_span walk e (span e.mid e.from) + looks_of_span walk e (span e.keep e.mid)

-- all lines behind the first were gone over
pub record IsMovedWalk (old new : Walk) (e : Exchange) : Type 0 where
  pub news : new.replay.news.items
      ≡ (second_replayed old.base.lines.now e ++ first_replayed old.base.lines.now e) ++ behind_replayed old.base.lines.now e
  pub state : now_at new (length old.base.lines.now) ≡ state_after first_state (exchanged e old.base.lines.now)
