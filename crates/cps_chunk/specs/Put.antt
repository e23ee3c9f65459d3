-- The division where lines come in the place of others. Our own.
use Rattle.std.specs.Prelude.{◌≡◌, ℕ, zero, suc, ◌+◌, ◌-◌, ◌≤◌, nat_lt, List, sum, take, length, if◌then◌else◌}
use Rattle.cps_chunk.specs.Division.{IsDivision, deleted_at, inserted_at}
use Rattle.cps_chunk.specs.Recut.{recut}
use Rattle.cps_chunk.specs.Staying.{IsTight}
use Rattle.cps_chunk.specs.declared.put.ChunkSplice.{ChunkSplice}

-- so many lines more after so many others, one behind the other
abbrev pub inserted_each : ℕ → ℕ → List ℕ → List ℕ
inserted_each after zero lengths = lengths
inserted_each after (suc count) lengths = inserted_each (after + 1) count (inserted_at after lengths)

-- Lines come in the place of others, after so many that are kept: each in the place of one as long as there are some. Then the others that are left go, or
-- the lines that are left are inserted behind them.
abbrev pub put_at : ℕ → ℕ → ℕ → List ℕ → List ℕ
put_at keep gone come lengths =
    if nat_lt come gone then deleted_at (keep + come) (gone - come) lengths else inserted_each (keep + gone) (come - gone) lengths

-- they divide as many lines as there are then
abbrev pub Puts : Type 0
Puts = (keep gone come count : ℕ) (lengths : List ℕ) → IsDivision count lengths → keep + gone ≤ count → IsDivision (count - gone + come) (put_at keep gone come lengths)

-- chunks give way to others around the lines from `keep` up to `from`, and all that stay are outside
pub record IsRecut (keep from : ℕ) (olds news : List ℕ) (by : ChunkSplice) : Type 0 where
  pub chunks : recut by.start by.end by.lengths.items olds ≡ news
  pub ordered : by.start ≤ by.end
  pub within : by.end ≤ length olds
  pub before : by.before ≡ sum (take by.start olds)
  pub begins : by.before ≤ keep
  pub ends : from ≤ sum (take by.end olds)
  pub tight : IsTight keep (sum olds - from) by.start by.end by.lengths.items olds
