-- A check of a source, from its bytes to what is told. Our own.
use Rattle.std.specs.Prelude.{◌≡◌, ℕ, Bool, List, ◌++◌, Option, Result, Ok, Err}
use Rattle.std.specs.Io.KnownBytes.{Appends}
use Rattle.cps_text.specs.declared.counted.Counted.{Counted}
use Rattle.cps_text.specs.Counted.{inner_of, failures_of, FailsOnce}
use Rattle.cps_input.specs.declared.input_fault.InputFault.{InputFault}
use Rattle.cps_input.specs.declared.input_fault.InputFault.TheVariants as inputs
use Rattle.cps_input.specs.Lines.{HasText}
use Rattle.cps_input.specs.Reads.{IsAllRead, IsCutShort}
use Rattle.cps_check.specs.declared.fault.CheckFault.{CheckFault}
use Rattle.cps_check.specs.declared.fault.CheckFault.TheVariants as faults
use Rattle.cps_check.specs.Reports.{AreAsked, Report, Reports, has_errors}
use Rattle.cps_check.specs.Texts.{Tells}

-- why a check ends where its input is not given; reading bytes has no other fault
abbrev pub of_input : InputFault → CheckFault
of_input inputs.ReadFault = faults.ReadFault
of_input inputs.Memory = faults.Memory
of_input _ = faults.ReadFault

-- a text tells all that is told of an input with these bytes, without notes where errors alone are asked for
pub record IsCheckOf (errors_only : Bool) (name bytes text : List ℕ) : Type 0 where
  pub lines : List (List ℕ)
  pub cut : HasText bytes lines
  pub reports : List Report
  pub all : Reports lines reports
  pub asked : AreAsked errors_only reports
  pub tells : Tells name reports text

-- What is written of an input with these bytes, by the result, which says whether an error is told: the text; or a front of it, where a write failed; or
-- nothing.
abbrev pub Checks : {W : Type 0} → (W → Option (List ℕ)) → Bool → List ℕ → List ℕ → Result Bool CheckFault → Counted W → Counted W → Type 0
Checks contents errors_only name bytes (Ok is_wrong) old new =
    (text : List ℕ) × (told : IsCheckOf errors_only name bytes text) × (is_wrong ≡ has_errors told.reports)
    × Appends (contents (inner_of old)) (contents (inner_of new)) text × (failures_of new ≡ failures_of old)
Checks contents errors_only name bytes (Err faults.WriteFault) old new =
    (front back : List ℕ) × IsCheckOf errors_only name bytes (front ++ back) × Appends (contents (inner_of old)) (contents (inner_of new)) front × FailsOnce old new
Checks contents errors_only name bytes (Err faults.Memory) old new = new ≡ old
Checks contents errors_only name bytes (Err faults.ReadFault) old new = ⊥

-- What a check does under a name, which may tell errors alone, by its result. The input is read to its end, and then its bytes decide. Where it can't be read to its end nothing is written.
abbrev pub RunsCheck : {R W : Type 0} → (R → Option (List ℕ)) → (W → Option (List ℕ)) → Bool → List ℕ → Result Bool CheckFault → Counted R → Counted R → Counted W → Counted W → Type 0
RunsCheck remaining contents errors_only name (Err faults.ReadFault) reader reader' writer writer' = IsCutShort remaining reader reader' × (writer' ≡ writer)
RunsCheck remaining contents errors_only name result reader reader' writer writer' =
    (bytes : List ℕ) × IsAllRead remaining reader reader' bytes × Checks contents errors_only name bytes result writer writer'
