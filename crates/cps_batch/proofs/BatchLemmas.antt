-- A run of batch assembly, by what was done with the lines that were read.
use Rattle.std.proofs.Common.{ℕ, List}
use Rattle.std.specs.Prelude.{Option, Result, Ok, Err}
use Rattle.cps_text.specs.declared.counted.Counted.{Counted}
use Rattle.cps_input.specs.declared.input_fault.InputFault.TheVariants as inputs
use Rattle.cps_input.specs.Sources.{IsReadWhole}
use Rattle.cps_list.specs.declared.part.Part.{Part}
use Rattle.cps_batch.specs.declared.fault.BatchFault.{BatchFault}
use Rattle.cps_batch.specs.declared.fault.BatchFault.TheVariants as faults
use Rattle.cps_batch.specs.Batch.{Assembles, RunsBatch}

-- lines that were assembled
pub runs : {R W : Type 0} (remaining : R → Option (List ℕ)) (contents : W → Option (List ℕ)) (part : Part) (result : Result ℕ BatchFault)
    (reader reader' : Counted R) (writer writer' : Counted W) (lines : List (List ℕ)) → IsReadWhole remaining reader reader' lines
    → Assembles contents part result lines writer writer' → RunsBatch remaining contents part result reader reader' writer writer'
runs remaining contents part (Ok count) reader reader' writer writer' lines whole done = (lines, whole, done)
runs remaining contents part (Err (faults.LineTooLong at)) reader reader' writer writer' lines whole done = (lines, whole, done)
runs remaining contents part (Err (faults.BadCharacter at column)) reader reader' writer writer' lines whole done = (lines, whole, done)
runs remaining contents part (Err faults.TooManyLines) reader reader' writer writer' lines whole done = (lines, whole, done)
runs remaining contents part (Err faults.Memory) reader reader' writer writer' lines whole done = (lines, whole, done)
runs remaining contents part (Err faults.ReadFault) reader reader' writer writer' lines whole ((inputs.ReadFault, is, why), same) = absurd why
runs remaining contents part (Err faults.ReadFault) reader reader' writer writer' lines whole ((inputs.LineTooLong at, is, why), same) = cc
runs remaining contents part (Err faults.ReadFault) reader reader' writer writer' lines whole ((inputs.BadCharacter at column, is, why), same) = cc
runs remaining contents part (Err faults.ReadFault) reader reader' writer writer' lines whole ((inputs.TooManyLines, is, why), same) = cc
runs remaining contents part (Err faults.ReadFault) reader reader' writer writer' lines whole ((inputs.Memory, is, why), same) = cc
runs remaining contents part (Err faults.WriteFault) reader reader' writer writer' lines whole done = (lines, whole, done)
