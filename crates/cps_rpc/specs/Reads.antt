-- What a server reads. Our own.
use Rattle.std.specs.Prelude.{◌≡◌, ℕ, ◌-◌, ◌^◌, ◌≤◌, ◌⊎◌, List, [], ◌++◌, length, Option}
use Rattle.std.specs.Io.KnownBytes.{Consumes, IsAtEnd}
use Rattle.cps_text.specs.declared.counted.Counted.{Counted}
use Rattle.cps_text.specs.Counted.{inner_of, calls_of, failures_of, idle_of, raised_by, FailsOnce, LastReadGave}

-- the most reads of a server
abbrev pub most_server_reads : ℕ
most_server_reads = 2 ^ 64 - 1

-- from one moment to another a reader gave `before` and then, at its last read, `last`; no read failed
pub record Gave {R : Type 0} (remaining : R → Option (List ℕ)) (old new : Counted R) (before last : List ℕ) : Type 0 where
  pub given : Consumes (remaining (inner_of old)) (remaining (inner_of new)) (before ++ last)
  pub reads : LastReadGave old new before last
  pub unfailed : failures_of new ≡ failures_of old

-- the input is at its end: the last read gave no byte, and no known byte is left
abbrev pub IsInputEnd : List ℕ → Option (List ℕ) → Type 0
IsInputEnd last left = (last ≡ []) × IsAtEnd left

-- Reading was cut off: the read after these bytes failed; or none failed, and each of the most reads gave a byte.
abbrev pub IsCutOff : {R : Type 0} → Counted R → Counted R → List ℕ → Type 0
IsCutOff old new taken =
    (FailsOnce old new × LastReadGave old new taken [])
    ⊎ ((failures_of new ≡ failures_of old) × (most_server_reads ≤ length taken) × (calls_of new ≡ raised_by most_server_reads (calls_of old)) × (idle_of new ≡ idle_of old))
