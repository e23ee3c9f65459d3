-- For the loop over an input's bytes, not part of what a reader believes: lines or bytes that have come.
use Rattle.std.specs.Prelude.{◌≡◌, ℕ, List, [], ◌∷◌, ◌++◌, Option, Result, MatchResult, length, map}
use Rattle.std.specs.Borrow.{Bor}
use Rattle.cps_input.specs.declared.input_fault.InputFault.{InputFault}
use Rattle.cps_input.specs.declared.intake.Intake.{Intake}
use Rattle.cps_input.specs.declared.intake.Intake.TheVariants.{Kept, Refused, Faulty}
use Rattle.cps_input.specs.declared.input.Input.{Input}
use Rattle.cps_input.specs.declared.kept_bytes.KeptBytes.{KeptBytes}
use Rattle.cps_input.specs.declared.kept_bytes.KeptBytes.TheVariants as bytes
use Rattle.cps_input.specs.Sources.{IsSource, IsFirstWrong, Refuses}
use Rattle.cps_input.specs.Code.BegunLine.{IsBegun, IsGiven}
use Rattle.cps_input.specs.Lines.{Splits, without_return}

-- these lines have come
abbrev pub IsIntake : Intake → List (List ℕ) → Type 0
IsIntake (Kept kept) lines = (kept ≡ lines) × IsSource lines
IsIntake (Refused count) lines = (count ≡ length lines) × IsSource lines
IsIntake (Faulty fault) lines = IsFirstWrong lines fault

-- after the lines of one intake, another has one more, of which this is given
abbrev pub TakesLine : Intake → Option (Bor (List ℕ)) → Intake → Type 0
TakesLine old text new = (lines : List (List ℕ)) (line : List ℕ) → IsIntake old lines → IsGiven text line → IsIntake new (lines ++ line ∷ [])

-- what is answered of lines that have come: these lines, which a source may have, or why they are not given
abbrev pub AnswersLines : Result (List (List ℕ)) InputFault → List (List ℕ) → Type 0
AnswersLines result source = MatchResult result (λ lines. (lines ≡ source) × IsSource source) (λ fault. Refuses fault source)

-- these bytes have come
pub record HasCome (input : Input) (taken : List ℕ) : Type 0 where
  pub lines : List (List ℕ)
  pub rest : List ℕ
  pub splits : Splits taken lines rest
  pub begun : IsBegun input.begun rest
  pub intake : IsIntake input.intake (map without_return lines)

-- these bytes have come, and are kept if there was memory
abbrev pub HasBytes : KeptBytes → List ℕ → Type 0
HasBytes (bytes.Kept kept) taken = kept.items ≡ taken
HasBytes bytes.Refused taken = Unit {0}
