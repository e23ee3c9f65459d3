-- For the code that goes over the lines of chunks, not part of what a reader believes.
use Rattle.std.specs.Prelude.{◌≡◌, ℕ, ◌+◌, ◌-◌, ◌≤◌, List, [], ◌∷◌, ◌++◌, length, take, drop, sum, if◌then◌else◌}
use Rattle.cps_state.specs.Keys.{State, first_state}
use Rattle.cps_state.specs.Course.{Trace}
use Rattle.cps_state.specs.declared.key.Asked.{Asked as Ask}
use Rattle.cps_state.specs.declared.key.Put.{Put}
use Rattle.cps_final.specs.Layout.{puts_of}
use Rattle.cps_state.specs.contracts.state.StateLookup.TheImpl.{answer-value}
use Rattle.cps_final.specs.Changes.{Changed, no_change}
use Rattle.cps_final.specs.Code.Kept.{changes_in}
use Rattle.cps_final.specs.Holds.{holds}
use Rattle.cps_final.specs.Run.{run_of}
use Rattle.cps_edit.specs.Passes.{state_after, traces_of}
use Rattle.cps_chunk.specs.Code.Chunk.{AreChunksOf, lengths_of}
use Rattle.cps_chunk.specs.declared.chunk.Chunk.{Chunk}
use Rattle.cps_chunk.specs.Code.Replay.{now_by}
use Rattle.cps_chunk.specs.Replayed.{replayed}
use Rattle.cps_chunk.specs.declared.sparse.SparseItem.{SparseItem}
use Rattle.cps_chunk.specs.declared.walk.Baseline.{Baseline}
use Rattle.cps_chunk.specs.declared.walk.Cursor.{Cursor}
use Rattle.cps_chunk.specs.declared.walk.Walk.{Walk}

-- a source as it stood: what stands before its first line, and what each line did
pub record IsBaseline (base : Baseline) : Type 0 where
  pub first : answer-value.it base.first.now ≡ first_state
  pub did : base.traces.now ≡ traces_of base.lines.now

-- and its chunks
pub record IsWalk (walk : Walk) : Type 0 where
  pub base : IsBaseline walk.base
  pub chunks : AreChunksOf walk.base.hashing walk.chunks.items walk.base.traces.now

-- one of its chunks, or the end of all, with as many lines in front of it as the chunks there have
pub record StandsAt (chunks : List Chunk) (cursor : Cursor) : Type 0 where
  pub within : cursor.chunk ≤ length chunks
  pub line : cursor.line ≡ sum (take cursor.chunk (lengths_of chunks))

abbrev pub cursor : ℕ → ℕ → Cursor
cursor chunk line = record { chunk = chunk; line = line }

-- chunks from one of them on, up to another or the end of all
pub record AreChunksFrom (chunks : List Chunk) (begin end : Cursor) : Type 0 where
  pub first : StandsAt chunks begin
  pub past : StandsAt chunks end
  pub ordered : begin.chunk ≤ end.chunk

-- those after the first `from` up to the first `to`
abbrev pub stretch : {X : Type 0} → ℕ → ℕ → List X → List X
stretch from to xs = drop from (take to xs)

-- what stood in front of a line, and what stands there now
abbrev pub stood_at : Baseline → ℕ → State
stood_at base at = state_after first_state (take at base.lines.now)

abbrev pub state_at : Walk → ℕ → State
state_at walk at = stood_at walk.base at

abbrev pub now_at : Walk → ℕ → State
now_at walk at = now_by walk.replay.log (state_at walk at)

-- which keys are changed behind the lines that were gone over
abbrev pub changed_in : Walk → Changed
changed_in walk = changes_in walk.replay.log.changes

-- lines from one on up to another may be gone over, or entered behind the first `from`: no lines are open
pub record MayGoOver (now : Walk) (from to : ℕ) : Type 0 where
  pub walk : IsWalk now
  pub ordered : from ≤ to
  pub within : to ≤ length now.base.lines.now
  pub present : changes_in now.replay.log.present ≡ no_change

-- lines from one on up to another were gone over: what they do now is noted, and what is changed behind them
pub record GoesOver (old new : Walk) (from to : ℕ) : Type 0 where
  pub news : new.replay.news.items
      ≡ old.replay.news.items ++ replayed (now_at old from) from (stretch from to old.base.lines.now) (stretch from to old.base.traces.now)
  pub state : now_at new to ≡ state_after (now_at old from) (stretch from to old.base.lines.now)
  pub present : changes_in new.replay.log.present ≡ no_change

-- how many lines of chunks are compared one by one: those of a chunk of whose asks one has another answer now
abbrev pub looks_over : State → List ℕ → List (List ℕ) → List Trace → ℕ
looks_over now [] lines traces = 0
looks_over now (n ∷ lengths) lines traces =
    (if holds (run_of (take n traces)).asks now then 0 else n) + looks_over (state_after now (take n lines)) lengths (drop n lines) (drop n traces)

-- what the lines from one on up to another do now that are disturbed in pass one
abbrev pub replayed_in : Walk → ℕ → ℕ → List (SparseItem Trace)
replayed_in walk from to = replayed (now_at walk from) from (stretch from to walk.base.lines.now) (stretch from to walk.base.traces.now)

-- what those lines asked together, and what they put
abbrev pub asks_in : Walk → ℕ → ℕ → List Ask
asks_in walk from to = (run_of (stretch from to walk.base.traces.now)).asks

abbrev pub puts_in : Walk → ℕ → ℕ → List Put
puts_in walk from to = puts_of (stretch from to walk.base.traces.now)

-- nothing that was there is made anew, and the chunks are as they were
abbrev pub HasMadeNothing : Walk → Walk → Type 0
HasMadeNothing old new = (new.base ≡ old.base) × (new.chunks ≡ old.chunks) × (new.replay.news ≡ old.replay.news)

-- how many lines are compared of those of a chunk, and of those of the chunks from one on up to another
abbrev pub looks_at : Walk → ℕ → ℕ → ℕ
looks_at walk from to = if holds (run_of (stretch from to walk.base.traces.now)).asks (now_at walk from) then 0 else to - from

abbrev pub looks_in : Walk → Cursor → Cursor → ℕ
looks_in walk first past =
    looks_over (now_at walk first.line) (stretch first.chunk past.chunk (lengths_of walk.chunks.items)) (stretch first.line past.line walk.base.lines.now)
    (stretch first.line past.line walk.base.traces.now)

-- its chunks have as many lines as before, whatever was gathered of them
pub record IsStillWalk (old new : Walk) : Type 0 where
  pub walk : IsWalk new
  pub base : new.base ≡ old.base
  pub lengths : lengths_of new.chunks.items ≡ lengths_of old.chunks.items
