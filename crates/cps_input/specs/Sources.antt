-- The lines of a source, and what reading them answers. Our own.
use Rattle.std.specs.Prelude.{◌≡◌, ℕ, ◌+◌, ◌<◌, ◌≤◌, true, false, List, ◌∷◌, ◌++◌, length, Option, Result, Ok, Err}
use Rattle.std.specs.List.{All}
use Rattle.cps_text.specs.declared.counted.Counted.{Counted}
use Rattle.cps_text.specs.declared.limits.TheConstants.{MOST_LINES}
use Rattle.cps_text.specs.Line.{longest_line, IsLine, HasBadCharacter, all_accepted, is_accepted_byte}
use Rattle.cps_input.specs.declared.input_fault.InputFault.{InputFault}
use Rattle.cps_input.specs.declared.input_fault.InputFault.TheVariants as faults
use Rattle.cps_input.specs.Lines.{HasText}
use Rattle.cps_input.specs.Reads.{IsAllRead, IsCutShort}

-- lines that a source may have: no text that is no line, and not too many
pub record IsSource (lines : List (List ℕ)) : Type 0 where
  pub each : All IsLine lines
  pub few : length lines ≤ MOST_LINES

-- the first byte of a line that no line may have stands in this column, from 1: a line may have each byte before it
pub record IsFirstBad (line : List ℕ) (column : ℕ) : Type 0 where
  pub front : List ℕ
  pub byte : ℕ
  pub back : List ℕ
  pub whole : line ≡ front ++ byte ∷ back
  pub before : all_accepted front ≡ true
  pub bad : is_accepted_byte byte ≡ false
  pub place : column ≡ length front + 1

-- What is wrong with the line of a number, where lines count from 1: it is too long; it is short enough and has a bad character, the first
-- in a column; it is a line, and one too many.
abbrev pub IsWrong : ℕ → List ℕ → InputFault → Type 0
IsWrong number line (faults.LineTooLong at) = (at ≡ number) × (longest_line < length line)
IsWrong number line (faults.BadCharacter at column) = (at ≡ number) × HasBadCharacter line × IsFirstBad line column
IsWrong number line faults.TooManyLines = (MOST_LINES < number) × IsLine line
IsWrong number line faults.ReadFault = ⊥
IsWrong number line faults.Memory = ⊥

-- the first line that no source may have is wrong in this way
pub record IsFirstWrong (lines : List (List ℕ)) (fault : InputFault) : Type 0 where
  pub front : List (List ℕ)
  pub line : List ℕ
  pub back : List (List ℕ)
  pub whole : lines ≡ front ++ line ∷ back
  pub before : IsSource front
  pub wrong : IsWrong (length front + 1) line fault

-- why the lines of an input are not given: the first that no source may have is wrong; or none is, and there was no memory
abbrev pub Refuses : InputFault → List (List ℕ) → Type 0
Refuses (faults.LineTooLong at) lines = IsFirstWrong lines (faults.LineTooLong at)
Refuses (faults.BadCharacter at column) lines = IsFirstWrong lines (faults.BadCharacter at column)
Refuses faults.TooManyLines lines = IsFirstWrong lines faults.TooManyLines
Refuses faults.Memory lines = IsSource lines
Refuses faults.ReadFault lines = ⊥

-- an input was read to its end, and has these lines
pub record IsReadWhole {R : Type 0} (remaining : R → Option (List ℕ)) (old new : Counted R) (lines : List (List ℕ)) : Type 0 where
  pub bytes : List ℕ
  pub read : IsAllRead remaining old new bytes
  pub text : HasText bytes lines

-- What reading the lines of a source answers, where they are in what is made of them. The input is read to its end, and then its lines decide.
abbrev pub ReadsLines : {R X : Type 0} → (X → List (List ℕ)) → (R → Option (List ℕ)) → Result X InputFault → Counted R → Counted R → Type 0
ReadsLines lines_in remaining (Ok made) old new = IsReadWhole remaining old new (lines_in made) × IsSource (lines_in made)
ReadsLines lines_in remaining (Err faults.ReadFault) old new = IsCutShort remaining old new
ReadsLines lines_in remaining (Err fault) old new = (lines : List (List ℕ)) × IsReadWhole remaining old new lines × Refuses fault lines
