-- What batch assembly of a source does. Our own.
use Rattle.std.specs.Prelude.{◌≡◌, ℕ, List, ◌++◌, Option, Result, Ok, Err}
use Rattle.std.specs.Io.KnownBytes.{Appends, Consumes}
use Rattle.cps_text.specs.declared.counted.Counted.{Counted}
use Rattle.cps_text.specs.Counted.{inner_of, failures_of, FailsOnce}
use Rattle.cps_input.specs.declared.input_fault.InputFault.{InputFault}
use Rattle.cps_input.specs.declared.input_fault.InputFault.TheVariants as inputs
use Rattle.cps_input.specs.Sources.{IsSource, Refuses, IsReadWhole}
use Rattle.cps_input.specs.Reads.{EndsEarly}
use Rattle.cps_list.specs.declared.part.Part.{Part}
use Rattle.cps_list.specs.Texts.{text_of}
use Rattle.cps_batch.specs.declared.fault.BatchFault.{BatchFault}
use Rattle.cps_batch.specs.declared.fault.BatchFault.TheVariants as faults
use Rattle.cps_edit.specs.Assembly.{assembly_of}
use Rattle.cps_edit.specs.Flagged.{flagged_lines}

-- a fault of the input, as batch assembly answers it
abbrev pub of_input : InputFault → BatchFault
of_input inputs.ReadFault = faults.ReadFault
of_input (inputs.LineTooLong at) = faults.LineTooLong at
of_input (inputs.BadCharacter at column) = faults.BadCharacter at column
of_input inputs.TooManyLines = faults.TooManyLines
of_input inputs.Memory = faults.Memory

-- What is done with the lines of an input, by the result: the text of the part is written and the flagged lines are counted; or a front of the
-- text is written, where a write failed; or nothing is written.
abbrev pub Assembles : {W : Type 0} → (W → Option (List ℕ)) → Part → Result ℕ BatchFault → List (List ℕ) → Counted W → Counted W → Type 0
Assembles contents part (Ok count) lines old new =
    IsSource lines × (count ≡ flagged_lines lines) × Appends (contents (inner_of old)) (contents (inner_of new)) (text_of part (assembly_of lines))
    × (failures_of new ≡ failures_of old)
Assembles contents part (Err faults.WriteFault) lines old new =
    IsSource lines × ((front back : List ℕ) × (text_of part (assembly_of lines) ≡ front ++ back) × Appends (contents (inner_of old)) (contents (inner_of new)) front)
    × FailsOnce old new
Assembles contents part (Err fault) lines old new = ((why : InputFault) × (fault ≡ of_input why) × Refuses why lines) × (new ≡ old)

-- What a run of batch assembly does, by its result. The input is read to its end, and then its lines decide. Where it can't be read to its end
-- nothing is written.
abbrev pub RunsBatch : {R W : Type 0} → (R → Option (List ℕ)) → (W → Option (List ℕ)) → Part → Result ℕ BatchFault → Counted R → Counted R → Counted W → Counted W → Type 0
RunsBatch remaining contents part (Err faults.ReadFault) reader reader' writer writer' =
    (taken : List ℕ) × Consumes (remaining (inner_of reader)) (remaining (inner_of reader')) taken × EndsEarly reader reader' taken × (writer' ≡ writer)
RunsBatch remaining contents part result reader reader' writer writer' =
    (lines : List (List ℕ)) × IsReadWhole remaining reader reader' lines × Assembles contents part result lines writer writer'
