-- What a comparison of an octal text with a source does, where both are read. Our own.
use Rattle.std.specs.Prelude.{◌≡◌, ℕ, List, ◌++◌, Option, Result, Ok, Err}
use Rattle.std.specs.Io.KnownBytes.{Appends}
use Rattle.cps_text.specs.declared.counted.Counted.{Counted}
use Rattle.cps_text.specs.Counted.{inner_of, failures_of, FailsOnce}
use Rattle.cps_input.specs.declared.input_fault.InputFault.TheVariants as inputs
use Rattle.cps_input.specs.Reads.{IsAllRead, IsCutShort}
use Rattle.cps_input.specs.Sources.{IsSource, Refuses, IsReadWhole}
use Rattle.cps_edit.specs.Assembly.{assembly_of}
use Rattle.cps_compare.specs.declared.compare_options.CompareOptions.{CompareOptions}
use Rattle.cps_compare.specs.declared.comparison.Comparison.{Comparison}
use Rattle.cps_compare.specs.Comparison.{Compares, Tells, findings_in}
use Rattle.cps_compare.specs.Findings.{Findings}
use Rattle.cps_compare.specs.declared.octal_fault.OctalFault.{OctalFault}
use Rattle.cps_compare.specs.declared.octal_fault.OctalFault.TheVariants as faults

-- an octal text, and a source of these lines
abbrev pub found_with : CompareOptions → List ℕ → List (List ℕ) → Findings
found_with options octal lines = findings_in options octal (assembly_of lines)

-- What was told is written, and its words that differ are counted; or a front of it is written, where a write failed.
abbrev pub WritesTold : {W : Type 0} → (W → Option (List ℕ)) → Result ℕ OctalFault → Comparison → Counted W → Counted W → Type 0
WritesTold contents (Ok count) told old new =
    (count ≡ told.differing) × Appends (contents (inner_of old)) (contents (inner_of new)) told.text.items × (failures_of new ≡ failures_of old)
WritesTold contents (Err faults.WriteFault) told old new =
    ((front back : List ℕ) × (told.text.items ≡ front ++ back) × Appends (contents (inner_of old)) (contents (inner_of new)) front) × FailsOnce old new
WritesTold contents (Err _) told old new = ⊥

-- What is done with the bytes of an octal text and the lines of an input, by the result: what they tell is written, or a front of it where
-- a write failed; or nothing is written, since nothing is compared, or since the lines are none of a source.
abbrev pub Reports : {W : Type 0} → (W → Option (List ℕ)) → CompareOptions → Result ℕ OctalFault → List ℕ → List (List ℕ) → Counted W → Counted W → Type 0
Reports contents options (Err (faults.Compare fault)) octal lines old new =
    IsSource lines × Compares options (found_with options octal lines) (Err fault) × (new ≡ old)
Reports contents options (Err (faults.Source fault)) octal lines old new = Refuses fault lines × (new ≡ old)
Reports contents options result octal lines old new =
    IsSource lines × ((told : Comparison) × Tells options (found_with options octal lines) told × WritesTold contents result told old new)

-- What a run does, by its result. The octal text is read to its end, and then the source; then its lines decide. Where one of them can't
-- be read to its end nothing is written.
abbrev pub RunsComparison : {O R W : Type 0} → (O → Option (List ℕ)) → (R → Option (List ℕ)) → (W → Option (List ℕ)) → CompareOptions → Result ℕ OctalFault
    → Counted O → Counted O → Counted R → Counted R → Counted W → Counted W → Type 0
RunsComparison given remaining contents options (Err faults.ReadFault) octal octal' source source' writer writer' =
    IsCutShort given octal octal' × (source' ≡ source) × (writer' ≡ writer)
RunsComparison given remaining contents options (Err (faults.Source inputs.ReadFault)) octal octal' source source' writer writer' =
    ((bytes : List ℕ) × IsAllRead given octal octal' bytes) × IsCutShort remaining source source' × (writer' ≡ writer)
RunsComparison given remaining contents options result octal octal' source source' writer writer' =
    (bytes : List ℕ) × IsAllRead given octal octal' bytes
    × ((lines : List (List ℕ)) × IsReadWhole remaining source source' lines × Reports contents options result bytes lines writer writer')
