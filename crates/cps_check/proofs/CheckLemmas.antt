-- A check, by what reading the input answered.
use Rattle.std.proofs.Common.{◌≡◌, ℕ, Bool, List, refl, subst}
use Rattle.std.specs.Prelude.{Option, Result, Ok, Err}
use Rattle.cps_text.specs.declared.counted.Counted.{Counted}
use Rattle.cps_input.specs.Reads.{IsAllRead}
use Rattle.cps_list.specs.declared.writing.ListFault.{ListFault}
use Rattle.cps_list.specs.declared.writing.ListFault.TheVariants as lists
use Rattle.cps_list.specs.Writing.{Writes}
use Rattle.cps_check.specs.declared.fault.CheckFault.{CheckFault}
use Rattle.cps_check.specs.declared.fault.CheckFault.TheVariants as faults
use Rattle.cps_check.specs.Code.Adding.{TellsBytes}
use Rattle.cps_check.specs.Check.{Checks, IsCheckOf, RunsCheck}

-- an input that was read to its end
pub runs : {R W : Type 0} (remaining : R → Option (List ℕ)) (contents : W → Option (List ℕ)) (errors_only : Bool) (name : List ℕ) (result : Result Bool CheckFault)
    (reader reader' : Counted R) (writer writer' : Counted W) (bytes : List ℕ) → IsAllRead remaining reader reader' bytes
    → Checks contents errors_only name bytes result writer writer' → RunsCheck remaining contents errors_only name result reader reader' writer writer'
runs remaining contents errors_only name (Ok is_told) reader reader' writer writer' bytes read done = (bytes, read, done)
runs remaining contents errors_only name (Err faults.ReadFault) reader reader' writer writer' bytes read done = absurd done
runs remaining contents errors_only name (Err faults.Memory) reader reader' writer writer' bytes read done = (bytes, read, done)
runs remaining contents errors_only name (Err faults.WriteFault) reader reader' writer writer' bytes read done = (bytes, read, done)

-- a text that was written whole
pub all-written : {W : Type 0} (contents : W → Option (List ℕ)) (errors_only : Bool) (name bytes text : List ℕ) (is_wrong : Bool) (done : Unit {0}) (old new : Counted W)
    → Writes contents (Ok done) old new text → TellsBytes errors_only name bytes text is_wrong → Checks contents errors_only name bytes (Ok is_wrong) old new
all-written contents errors_only name bytes text is_wrong done old new written telling = (text, telling.told, telling.wrong, written.0, written.1)

-- a text of which a front was written
abbrev pub failed : ListFault → Result (Unit {0}) ListFault
failed fault = Err fault

pub front-written : {W : Type 0} (contents : W → Option (List ℕ)) (errors_only : Bool) (name bytes text : List ℕ) (fault : ListFault) (old new : Counted W)
    → (failed fault ≡ failed lists.Memory → ⊥) → Writes contents (failed fault) old new text → IsCheckOf errors_only name bytes text
    → Checks contents errors_only name bytes (Err faults.WriteFault) old new
front-written contents errors_only name bytes text lists.Memory old new other written told = absurd (other refl)
front-written contents errors_only name bytes text lists.WriteFault old new other ((front, back, whole, given), fails) told =
    (front, back, subst (λ (t : List ℕ). IsCheckOf errors_only name bytes t) whole told, given, fails)
