-- Reading an input. Our own.
use Rattle.std.specs.Prelude.{◌≡◌, ℕ, ◌≤◌, ◌⊎◌, List, [], length, Option, Result, Ok, Err}
use Rattle.std.specs.Io.KnownBytes.{Consumes, IsAtEnd}
use Rattle.std.specs.declared.vec.Vec.{Vec}
use Rattle.cps_text.specs.declared.counted.Counted.{Counted}
use Rattle.cps_text.specs.declared.limits.TheConstants.{MOST_READS}
use Rattle.cps_text.specs.Counted.{inner_of, calls_of, failures_of, idle_of, raised_by, FailsOnce, LastReadGave}
use Rattle.cps_input.specs.declared.input_fault.InputFault.{InputFault}
use Rattle.cps_input.specs.declared.input_fault.InputFault.TheVariants as faults

-- the most reads of an input
abbrev pub most_reads : ℕ
most_reads = MOST_READS

-- Reading ended before the input did: the read after these bytes failed; or none failed, and each of the most reads gave a byte.
abbrev pub EndsEarly : {R : Type 0} → Counted R → Counted R → List ℕ → Type 0
EndsEarly old new taken =
    (FailsOnce old new × LastReadGave old new taken [])
    ⊎ ((failures_of new ≡ failures_of old) × (most_reads ≤ length taken) × (calls_of new ≡ raised_by most_reads (calls_of old)) × (idle_of new ≡ idle_of old))

-- an input was read to its end, and these were its bytes
pub record IsAllRead {R : Type 0} (remaining : R → Option (List ℕ)) (old new : Counted R) (bytes : List ℕ) : Type 0 where
  pub given : Consumes (remaining (inner_of old)) (remaining (inner_of new)) bytes
  pub ended : IsAtEnd (remaining (inner_of new))
  pub last : LastReadGave old new bytes []
  pub unfailed : failures_of new ≡ failures_of old

-- an input gave these bytes, and reading ended before it did
abbrev pub IsCutShort : {R : Type 0} → (R → Option (List ℕ)) → Counted R → Counted R → Type 0
IsCutShort remaining old new =
    (taken : List ℕ) × Consumes (remaining (inner_of old)) (remaining (inner_of new)) taken × EndsEarly old new taken

-- What reading the bytes of an input answers: all of them; or that it can't be read to its end; or it was, and there was no memory.
abbrev pub ReadsBytes : {R Z : Type 0} → (R → Option (List ℕ)) → Result (Vec ℕ Z) InputFault → Counted R → Counted R → Type 0
ReadsBytes remaining (Ok bytes) old new = IsAllRead remaining old new bytes.items
ReadsBytes remaining (Err faults.ReadFault) old new = IsCutShort remaining old new
ReadsBytes remaining (Err faults.Memory) old new = (bytes : List ℕ) × IsAllRead remaining old new bytes
ReadsBytes remaining (Err _) old new = ⊥

-- For the loops that read, not part of what a reader believes: so many reads, each of which gave a byte, gave these bytes.
pub record HasRead {R : Type 0} (remaining : R → Option (List ℕ)) (old new : Counted R) (count : ℕ) (taken : List ℕ) : Type 0 where
  pub given : Consumes (remaining (inner_of old)) (remaining (inner_of new)) taken
  pub calls : ((count ≡ 0) × (calls_of new ≡ calls_of old)) ⊎ (calls_of new ≡ raised_by count (calls_of old))
  pub within : count ≤ length taken
  pub unfailed : failures_of new ≡ failures_of old
  pub unidle : idle_of new ≡ idle_of old
