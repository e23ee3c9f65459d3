-- For the code that goes along lines, not part of what a reader believes: lines between two places, where they stood or carried to another place.
use Rattle.std.specs.Prelude.{◌≡◌, ℕ, ◌+◌, ◌-◌, ◌<◌, ◌≤◌, max, min, nat_eq, true, ◌&&◌, List, [], ◌∷◌, ◌++◌, length, get_or, take, drop, sum, is_some, if◌then◌else◌}
use Rattle.cps_state.specs.Keys.{State}
use Rattle.cps_state.specs.Course.{Trace}
use Rattle.cps_final.specs.Changes.{no_change}
use Rattle.cps_final.specs.Code.Kept.{changes_in}
use Rattle.cps_final.specs.Layout.{puts_of}
use Rattle.cps_final.specs.Holds.{holds}
use Rattle.cps_final.specs.Run.{run_of}
use Rattle.cps_edit.specs.Passes.{state_after, traces_from}
use Rattle.cps_chunk.specs.Code.Chunk.{lengths_of}
use Rattle.cps_chunk.specs.declared.chunk.Chunk.{Chunk}
use Rattle.cps_chunk.specs.Code.Replay.{PutsAlso, now_with}
use Rattle.cps_chunk.specs.Replayed.{replayed}
use Rattle.cps_chunk.specs.Code.Walk.{StandsAt, now_at, state_at, stretch}
use Rattle.cps_chunk.specs.declared.sparse.SparseItem.{SparseItem}
use Rattle.cps_chunk.specs.declared.walk.Cursor.{Cursor}
use Rattle.cps_chunk.specs.declared.walk.Destination.{Destination}
use Rattle.cps_chunk.specs.declared.walk.Destination.TheVariants.{Same, Behind}
use Rattle.cps_chunk.specs.declared.walk.Span.{Span}
use Rattle.cps_chunk.specs.declared.walk.Walk.{Walk}

abbrev pub span : ℕ → ℕ → Span
span from to = record { from = from; to = to }

-- what stands now in front of a line that had a place, behind those that were gone along
abbrev pub front_at : Walk → Destination → ℕ → State
front_at walk Same at = now_at walk at
front_at walk (Behind place) at = now_with walk.replay.log (state_at walk place)

-- lines may be gone along
abbrev pub MayGo : Walk → Destination → Type 0
MayGo walk Same = changes_in walk.replay.log.present ≡ no_change
MayGo walk (Behind place) = place ≤ length walk.base.lines.now

pub record IsSpan (walk : Walk) (position : Destination) (lines : Span) : Type 0 where
  pub ordered : lines.from ≤ lines.to
  pub within : lines.to ≤ length walk.base.lines.now
  pub may : MayGo walk position

-- what the lines of a span do now that are disturbed in pass one
abbrev pub replayed_along : Walk → Destination → Span → List (SparseItem Trace)
replayed_along walk position lines =
    replayed (front_at walk position lines.from) lines.from (stretch lines.from lines.to walk.base.lines.now) (stretch lines.from lines.to walk.base.traces.now)

-- what they leave: no line is open, or they put more
abbrev pub Leaves : Walk → Walk → Destination → Span → Type 0
Leaves old new Same lines = changes_in new.replay.log.present ≡ no_change
Leaves old new (Behind place) lines =
    PutsAlso old.replay.log new.replay.log (puts_of (traces_from (front_at old (Behind place) lines.from) (stretch lines.from lines.to old.base.lines.now)))

-- the lines of a span were gone along
pub record GoesAlong (old new : Walk) (position : Destination) (lines : Span) : Type 0 where
  pub news : new.replay.news.items ≡ old.replay.news.items ++ replayed_along old position lines
  pub state : front_at new position lines.to ≡ state_after (front_at old position lines.from) (stretch lines.from lines.to old.base.lines.now)
  pub leaves : Leaves old new position lines

-- ---- the chunks of a span

-- the place that is reached in a span where another place is reached
abbrev pub reached : Span → ℕ → ℕ
reached lines place = max lines.from (min lines.to place)

-- one of the chunks, with as many lines in front of it as the chunks there have
pub record IsChunkAt (walk : Walk) (cursor : Cursor) : Type 0 where
  pub stands : StandsAt walk.chunks.items cursor
  pub within : cursor.chunk < length walk.chunks.items

-- lines of it
pub record IsInside (walk : Walk) (cursor : Cursor) (part : Span) : Type 0 where
  pub begins : cursor.line ≤ part.from
  pub ends : part.to ≤ sum (take (cursor.chunk + 1) (lengths_of walk.chunks.items))

-- what a chunk asks is gathered
abbrev pub IsGatheredAt : Walk → ℕ → Type 0
IsGatheredAt walk i = (c : Chunk) → c ≡ get_or walk.chunks.items i c → is_some c.run ≡ true

-- ---- how many lines are compared

-- Of a chunk from one place on up to another, in front of which that stands: none, if all its lines lie in the part and what they ask together has the answers
-- that it had; else those that lie in the part.
abbrev pub looks_of_part : Span → ℕ → ℕ → State → List Trace → ℕ
looks_of_part part at end state traces =
    if nat_eq part.from at && nat_eq part.to end then (if holds (run_of traces).asks state then 0 else end - at) else part.to - part.from

abbrev pub looks_of : Walk → Destination → Cursor → Span → ℕ
looks_of walk position cursor part =
    let end = sum (take (cursor.chunk + 1) (lengths_of walk.chunks.items)) in
    looks_of_part part cursor.line end (front_at walk position cursor.line) (stretch cursor.line end walk.base.traces.now)

abbrev pub looks_whole : Walk → Destination → ℕ → ℕ → ℕ
looks_whole walk position at end = if holds (run_of (stretch at end walk.base.traces.now)).asks (front_at walk position at) then 0 else end - at

-- of chunks of these lengths, the first of which begins at a place; that stands in front of each line
abbrev pub looks_along : Span → List ℕ → ℕ → (ℕ → State) → List Trace → ℕ
looks_along lines [] at stands traces = 0
looks_along lines (n ∷ lengths) at stands traces =
    looks_of_part (span (reached lines at) (reached lines (at + n))) at (at + n) (stands at) (take n traces) + looks_along lines lengths (at + n) stands (drop n traces)

-- what stands now in front of each line of a span
abbrev pub fronts_along : Walk → Destination → Span → ℕ → State
fronts_along walk position lines at = state_after (front_at walk position lines.from) (stretch lines.from at walk.base.lines.now)

abbrev pub looks_in_span : Walk → Destination → Span → ℕ
looks_in_span walk position lines = looks_along lines (lengths_of walk.chunks.items) 0 (fronts_along walk position lines) walk.base.traces.now
