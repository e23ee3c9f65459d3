-- For batch assembly, not part of what a reader believes: what its passes have made of the lines so far.
use Rattle.std.specs.Prelude.{◌≡◌, ◌+◌, ℕ, Bool, List, [], ◌∷◌, ◌++◌, length, map, take, Option, IfSome}
use Rattle.cps_state.specs.declared.item.Item.{Item}
use Rattle.cps_state.specs.Course.{Trace}
use Rattle.cps_state.specs.Code.Scratch.{Scratch, StandsOn, statements_on}
use Rattle.cps_input.specs.Code.Parts.{RisesTo}
use Rattle.cps_final.specs.declared.finals.Finals.{Finals as Gather}
use Rattle.cps_final.specs.contracts.finals.FinalsGathered.TheImpl as finals
use Rattle.cps_final.specs.Finals.{Finals}
use Rattle.cps_list.specs.Code.Making.{IsPrintoutOf, Printout, shown, shows_symbols}
use Rattle.cps_list.specs.Symbols.{mentions_from, mentions_on}
use Rattle.cps_list.specs.declared.mention.Mention.{Mention}
use Rattle.cps_final.specs.LineNames.{names_defined, names_read}
use Rattle.cps_batch.specs.Code.KeptLines.{AreKept}
use Rattle.cps_batch.specs.declared.kept_lines.KeptStatements.{KeptStatements}
use Rattle.cps_batch.specs.declared.passes.BatchPassOne.{BatchPassOne}
use Rattle.cps_batch.specs.declared.passes.PassTwo.{PassTwo}
use Rattle.cps_edit.specs.Assembly.{traces_of, outcomes_under}
use Rattle.cps_edit.specs.Code.PassOne.{AreGathered, IsTrace}

-- the statements of each line
abbrev pub statements_of : List Trace → List (List Item)
statements_of traces = map (λ (trace : Trace). trace.items) traces

-- the statements of each line, if they are kept, where the last stand on a scratch
abbrev pub IsAnyKept : Option KeptStatements → List Item → List (List Item) → Type 0
IsAnyKept kept items statements = IfSome kept (λ kept. AreKept kept items statements)

-- where statements are kept, those of the lines before end with these
abbrev pub AreBegun : Option KeptStatements → List Item → Type 0
AreBegun kept items = IfSome kept (λ kept. RisesTo 0 kept.ends.items (length items))

-- behind the statements that were kept come those of the line on a scratch
abbrev pub KeepsOn : Option KeptStatements → Option KeptStatements → Scratch → Scratch → Type 0
KeepsOn kept kept' old new = (statements : List (List Item)) → IsAnyKept kept old.before statements → IsAnyKept kept' (statements_on new) (statements ++ old.line.items ∷ [])

-- these are the statements of a line behind these lines
abbrev pub AreStatements : List (List ℕ) → List ℕ → List Item → Type 0
AreStatements before line items = (trace : Trace) × IsTrace before line trace × (items ≡ trace.items)

-- What a line did behind these lines stands on a scratch, behind the statements that stood there.
pub record IsNext (before : List (List ℕ)) (line : List ℕ) (front : List Item) (scratch : Scratch) : Type 0 where
  pub trace : Trace
  pub stands : StandsOn scratch front trace
  pub traces : IsTrace before line trace

-- behind any lines that were gathered, what a line does stands on a scratch
abbrev pub StepsNext : List ℕ → Gather → Scratch → Scratch → Type 0
StepsNext line gathered old new = (before : List (List ℕ)) → AreGathered before gathered → IsNext before line (statements_on old) new

-- a line is gathered behind any lines that were
abbrev pub GathersNext : List ℕ → Gather → Gather → Type 0
GathersNext line old new = (lines : List (List ℕ)) → AreGathered lines old → AreGathered (lines ++ line ∷ []) new

-- pass one: what was gathered, the statements of each line, if they are kept, and the symbols, if they are shown
pub record IsPassed (lines : List (List ℕ)) (one : BatchPassOne) : Type 0 where
  pub gathered : AreGathered lines one.gather
  pub kept : IsAnyKept one.kept (statements_on one.scratch) (statements_of (traces_of lines))
  pub mentions : (finals : Finals) → one.mentions.items ≡ shown (shows_symbols one.part) (mentions_from 1 (outcomes_under finals (traces_of lines)))

-- pass one of lines, and of one line more with its number
abbrev pub PassesOn : List ℕ → ℕ → BatchPassOne → BatchPassOne → Type 0
PassesOn line number old new = (lines : List (List ℕ)) → IsPassed lines old → number ≡ length lines + 1 → IsPassed (lines ++ line ∷ []) new

-- the symbols that a line is noted for, where they are shown
abbrev pub noted : Bool → ℕ → Trace → List Mention
noted is_shown number trace = shown is_shown (mentions_on number (names_defined trace) (names_read trace))

-- pass two: what a part shows under the final values
abbrev pub IsShown : List (List ℕ) → PassTwo → Type 0
IsShown lines two = IsPrintoutOf lines (outcomes_under (finals.gathered-value.it two.finals.now) (traces_of lines)) two.printout

-- pass two of lines, and of one line more with its number
abbrev pub ShowsOn : List (List ℕ) → List ℕ → ℕ → PassTwo → PassTwo → Type 0
ShowsOn lines line number old new = IsShown lines old → number ≡ length lines + 1 → IsShown (lines ++ line ∷ []) new

-- behind any lines, a line that stands for these statements is shown
abbrev pub ShowsStatements : List ℕ → List Item → ℕ → PassTwo → PassTwo → Type 0
ShowsStatements line items number old new = (lines : List (List ℕ)) → AreStatements lines line items → ShowsOn lines line number old new

-- where so many of these lines were shown, so many are shown now
abbrev pub ShowsTo : List (List ℕ) → ℕ → ℕ → PassTwo → PassTwo → Type 0
ShowsTo lines shown more old new = IsShown (take shown lines) old → IsShown (take more lines) new

-- the lines that were gathered are shown, under the final values
abbrev pub AreShown : Gather → List (List ℕ) → Printout → Type 0
AreShown gathered lines = IsPrintoutOf lines (outcomes_under (finals.gathered-value.it gathered) (traces_of lines))
