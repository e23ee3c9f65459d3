-- What a run of a disassembly does. Our own.
use Rattle.std.specs.Prelude.{◌≡◌, ℕ, List, ◌++◌, Option, Result, Ok, Err, IfSome}
use Rattle.std.specs.Io.KnownBytes.{Appends}
use Rattle.cps_text.specs.declared.counted.Counted.{Counted}
use Rattle.cps_text.specs.Counted.{inner_of, failures_of, FailsOnce}
use Rattle.cps_input.specs.Reads.{IsAllRead, IsCutShort}
use Rattle.cps_claims.specs.Rows.{rows_in}
use Rattle.cps_disassembly.specs.declared.request.Request.{Request}
use Rattle.cps_disassembly.specs.declared.selection.Selection.{Selection}
use Rattle.cps_disassembly.specs.declared.run_fault.RunFault.{RunFault}
use Rattle.cps_disassembly.specs.declared.run_fault.RunFault.TheVariants as faults
use Rattle.cps_disassembly.specs.Makes.{Makes, layout_of, claims_of}
use Rattle.cps_disassembly.specs.Disassembly.{Refuses}

-- what a request selects: the machine that is asked for, if one is
pub record Selects (request : Request) (selection : Selection) : Type 0 where
  pub machine : IfSome request.machine (λ machine. machine ≡ selection.machine)
  pub format : selection.format ≡ request.format
  pub columns : selection.columns ≡ request.columns
  pub from : selection.from ≡ request.from
  pub to : selection.to ≡ request.to

-- a source is written; or a front of it, where a write failed
abbrev pub WritesSource : {W T : Type 0} → (W → Option (List ℕ)) → Result T RunFault → List ℕ → Counted W → Counted W → Type 0
WritesSource contents (Ok _) text old new =
    Appends (contents (inner_of old)) (contents (inner_of new)) text × (failures_of new ≡ failures_of old)
WritesSource contents (Err faults.WriteFault) text old new =
    ((front back : List ℕ) × (text ≡ front ++ back) × Appends (contents (inner_of old)) (contents (inner_of new)) front) × FailsOnce old new
WritesSource contents (Err _) text old new = ⊥

-- What is done with an octal text, by the result: a source that makes its words is written, or a front of it; or nothing is.
abbrev pub WritesMade : {W T : Type 0} → (W → Option (List ℕ)) → Selection → Result T RunFault → List ℕ → Counted W → Counted W → Type 0
WritesMade contents selection (Err (faults.NoSource fault)) octal old new =
    Refuses selection (rows_in (layout_of selection) octal) (claims_of selection octal) fault × (new ≡ old)
WritesMade contents selection result octal old new =
    (text : List ℕ) × Makes selection octal text × WritesSource contents result text old new

-- What a run does, by its result. The octal text is read to its end, and then a source is made. Where it can't be read to its end nothing is written.
abbrev pub RunsDisassembly : {O W T : Type 0} → (O → Option (List ℕ)) → (W → Option (List ℕ)) → Request → Result T RunFault
    → Counted O → Counted O → Counted W → Counted W → Type 0
RunsDisassembly given contents request (Err faults.ReadFault) octal octal' writer writer' =
    IsCutShort given octal octal' × (writer' ≡ writer)
RunsDisassembly given contents request result octal octal' writer writer' =
    (bytes : List ℕ) × IsAllRead given octal octal' bytes
    × ((selection : Selection) × Selects request selection × WritesMade contents selection result bytes writer writer')
