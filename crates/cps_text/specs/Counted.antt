-- A counted reader or writer: what it holds, and its counts.
use Rattle.std.specs.Prelude.{◌≡◌, ℕ, ◌+◌, ◌-◌, ◌^◌, ◌≤◌, min, zero, suc, List, length, Option, None, Some}
use Rattle.cps_text.specs.declared.counted.Counted.{Counted}

-- the reader or writer itself
abbrev pub inner_of : {T : Type 0} → Counted T → T
inner_of counted = counted.inner

-- how many of its calls failed
abbrev pub failures_of : {T : Type 0} → Counted T → ℕ
failures_of counted = counted.failures

-- how often it was called
abbrev pub calls_of : {T : Type 0} → Counted T → ℕ
calls_of counted = counted.calls

-- how many bytes its last call gave or took; 0 where it failed, and before the first
abbrev pub moved_of : {T : Type 0} → Counted T → ℕ
moved_of counted = counted.moved

-- how many of its calls gave or took no byte
abbrev pub idle_of : {T : Type 0} → Counted T → ℕ
idle_of counted = counted.idle

-- a count after some more, up to the greatest value
abbrev pub raised_by : ℕ → ℕ → ℕ
raised_by more count = min (count + more) (2 ^ 64 - 1)

-- a count after one more
abbrev pub raised : ℕ → ℕ
raised = raised_by 1

-- one more where a call failed, which is None
abbrev pub raised_on_none : {T : Type 0} → Option T → ℕ → ℕ
raised_on_none None count = raised count
raised_on_none (Some x) count = count

-- one more where a call moved no byte
abbrev pub raised_on_zero : ℕ → ℕ → ℕ
raised_on_zero zero count = raised count
raised_on_zero (suc moved) count = count

-- from one moment to another one call failed, and the last call gave or took no byte
abbrev pub FailsOnce : {T : Type 0} → Counted T → Counted T → Type 0
FailsOnce old new = (failures_of new ≡ raised (failures_of old)) × (moved_of new ≡ 0)

-- From one moment to another a reader gave `before`, at least a byte a call, and then at one more call `last`. So no call gave nothing but
-- the last one, where `last` is empty.
abbrev pub LastReadGave : {T : Type 0} → Counted T → Counted T → List ℕ → List ℕ → Type 0
LastReadGave old new before last =
    (calls_of new ≤ calls_of old + length before + 1) × (length last ≡ moved_of new) × (idle_of new ≡ raised_on_zero (length last) (idle_of old))
