-- What a writer has taken of a text. Our own.
use Rattle.std.specs.Prelude.{◌≡◌, ℕ, List, ◌++◌, Option, Result, Ok, Err}
use Rattle.std.specs.Io.KnownBytes.{Appends}
use Rattle.cps_text.specs.declared.counted.Counted.{Counted}
use Rattle.cps_text.specs.Counted.{inner_of, failures_of, FailsOnce}
use Rattle.cps_list.specs.declared.writing.ListFault.{ListFault}
use Rattle.cps_list.specs.declared.writing.ListFault.TheVariants as faults

-- What was written of a text, by what was answered: all of it; nothing, where there was no memory; a front of it, where a write failed, and only there.
abbrev pub Writes : {T : Type 0} → (T → Option (List ℕ)) → Result (Unit {0}) ListFault → Counted T → Counted T → List ℕ → Type 0
Writes contents (Ok done) old new text = Appends (contents (inner_of old)) (contents (inner_of new)) text × (failures_of new ≡ failures_of old)
Writes contents (Err faults.Memory) old new text = new ≡ old
Writes contents (Err faults.WriteFault) old new text =
    ((front back : List ℕ) × (text ≡ front ++ back) × Appends (contents (inner_of old)) (contents (inner_of new)) front) × FailsOnce old new
