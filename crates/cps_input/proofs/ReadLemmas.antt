-- Reads one after another, each of which gave a byte.
use Rattle.std.proofs.Common.{◌≡◌, ◌+◌, ◌≤◌, ◌<◌, ◌⊎◌, ℕ, zero, suc, List, [], ◌++◌, length, take, refl, sym, inl, inr, ⊎_elim, ◌∙◌, arith, length-append, length-take}
use Rattle.std.proofs.KnownBytes.{Consumes-nil, Consumes-trans}
use Rattle.std.specs.Prelude.{Option}
use Rattle.std.specs.Io.KnownBytes.{Consumes}
use Rattle.cps_text.specs.declared.counted.Counted.{Counted}
use Rattle.cps_text.specs.Counted.{inner_of, calls_of, failures_of, moved_of, idle_of, raised, raised_by, raised_on_zero, LastReadGave}
use Rattle.cps_input.specs.Reads.{HasRead}

-- one more call is counted
pub counted : (first old new count : ℕ) → new ≡ raised old → ((count ≡ 0) × (old ≡ first)) ⊎ (old ≡ raised_by count first) → new ≡ raised_by (count + 1) first
counted first old new count is so_far = ⊎_elim
    (λ (none : (count ≡ 0) × (old ≡ first)). let zero = none.0 in let same = none.1 in grind arith)
    (λ (some : old ≡ raised_by count first). grind arith)
    so_far

-- a read that gives a byte makes what was taken longer by one or more
pub longer : (taken buf : List ℕ) (count counter : ℕ) → counter ≤ length taken → 0 < count → count ≤ length buf → counter + 1 ≤ length (taken ++ take count buf)
longer taken buf count counter within some fits = omega (arith, length-append taken (take count buf), length-take count buf)

pub taken_length : (buf : List ℕ) (count : ℕ) → count ≤ length buf → length (take count buf) ≡ count
taken_length buf count fits = omega (arith, length-take count buf)

-- each read so far gave a byte, and one more was made
pub reads_gave : (first old new count : ℕ) (taken : List ℕ) → new ≡ raised old → ((count ≡ 0) × (old ≡ first)) ⊎ (old ≡ raised_by count first) → count ≤ length taken
    → new ≤ first + length taken + 1
reads_gave first old new count taken is so_far within = ⊎_elim
    (λ (none : (count ≡ 0) × (old ≡ first)). let same = none.1 in omega arith)
    (λ (some : old ≡ raised_by count first). omega arith)
    so_far

-- a read that gives a byte isn't counted as one that gave none
pub idle-same : (first old new moved : ℕ) → new ≡ raised_on_zero moved old → 0 < moved → old ≡ first → new ≡ first
idle-same first old new zero is some same = absurd (omega (arith, some))
idle-same first old new (suc moved) is some same = is ∙ same

-- of the reads only the last may have given no byte
pub last_gave : {R : Type 0} (first old new : Counted R) (count : ℕ) (taken last : List ℕ)
    → ((count ≡ 0) × (calls_of old ≡ calls_of first)) ⊎ (calls_of old ≡ raised_by count (calls_of first)) → count ≤ length taken → idle_of old ≡ idle_of first
    → calls_of new ≡ raised (calls_of old) → idle_of new ≡ raised_on_zero (moved_of new) (idle_of old) → length last ≡ moved_of new → LastReadGave first new taken last
last_gave first old new count taken last so_far within same is idle gave =
    (reads_gave (calls_of first) (calls_of old) (calls_of new) count taken is so_far within, gave, idle ∙ (λ i. raised_on_zero (sym gave i) (same i)))

-- ---- the same for what loops know of their reads

pub read-none : {R : Type 0} (remaining : R → Option (List ℕ)) (reader : Counted R) → HasRead remaining reader reader 0 []
read-none remaining reader = record { given = Consumes-nil _; calls = inl (refl, refl); within = omega arith; unfailed = refl; unidle = refl }

pub read-more : {R : Type 0} (remaining : R → Option (List ℕ)) (first old new : Counted R) (count moved : ℕ) (taken buf : List ℕ) → HasRead remaining first old count taken
    → Consumes (remaining (inner_of old)) (remaining (inner_of new)) (take moved buf) → 0 < moved → moved ≤ length buf → moved_of new ≡ moved
    → calls_of new ≡ raised (calls_of old) → failures_of new ≡ failures_of old → idle_of new ≡ raised_on_zero (moved_of new) (idle_of old)
    → HasRead remaining first new (count + 1) (taken ++ take moved buf)
read-more remaining first old new count moved taken buf read given some fits is calls failures idle = record {
  given = Consumes-trans _ _ _ _ _ read.given given;
  calls = inr (counted (calls_of first) (calls_of old) (calls_of new) count calls read.calls);
  within = longer taken buf moved count read.within some fits;
  unfailed = failures ∙ read.unfailed;
  unidle = idle-same (idle_of first) (idle_of old) (idle_of new) (moved_of new) idle (omega (arith, some, is)) read.unidle;
}

pub read-last : {R : Type 0} (remaining : R → Option (List ℕ)) (first old new : Counted R) (count : ℕ) (taken last : List ℕ) → HasRead remaining first old count taken
    → calls_of new ≡ raised (calls_of old) → idle_of new ≡ raised_on_zero (moved_of new) (idle_of old) → length last ≡ moved_of new → LastReadGave first new taken last
read-last remaining first old new count taken last read is idle gave = last_gave first old new count taken last read.calls read.within read.unidle is idle gave
