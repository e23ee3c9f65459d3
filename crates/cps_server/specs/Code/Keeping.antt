-- For the code, not part of what a reader believes: the marks that are kept of each line.
use Rattle.std.specs.Prelude.{◌≡◌, ℕ, ◌+◌, ◌-◌, ◌≤◌, List, [], ◌∷◌, ◌++◌, All, length, map, Some, slice_get}
use Rattle.cps_text.specs.Line.{IsLine}
use Rattle.cps_final.specs.Outcome.{Outcome}
use Rattle.cps_cause.specs.declared.diagnostic.Diagnostic.{Diagnostic}
use Rattle.cps_cause.specs.Letters.{letter_of}
use Rattle.cps_cause.specs.Explaining.{Explains}
use Rattle.cps_input.specs.declared.character_fault.CharacterFault.{CharacterFault}
use Rattle.cps_input.specs.Faults.{AreFaults}
use Rattle.cps_rpc.specs.Lines.{source_lines}
use Rattle.cps_edit.specs.Assembly.{outcomes_of}
use Rattle.cps_edit.specs.Splice.{splice_at}
use Rattle.cps_live.specs.Edits.{AreRedone, IsLeft, place_before}
use Rattle.cps_server.specs.Document.{source_of_text}
use Rattle.cps_server.specs.declared.mark_kind.MarkKind.{MarkKind}
use Rattle.cps_server.specs.declared.mark_kind.MarkKind.TheVariants as kinds
use Rattle.cps_server.specs.declared.line_mark.LineMark.{LineMark}
use Rattle.cps_server.specs.declared.line_marks.LineMarks.{LineMarks}
use Rattle.cps_server.specs.declared.touched_lines.TouchedLines.{TouchedLines}
use Rattle.cps_server.specs.Marks.{Mark}

-- ---- a line

-- What a mark shows of its line: the columns, and what it marks.
pub record Shown : Type 0 where
  pub first : ℕ
  pub last : ℕ
  pub kind : MarkKind

abbrev pub shown_of : LineMark → Shown
shown_of mark = record { first = mark.columns.first; last = mark.columns.last; kind = mark.kind }

abbrev pub flag_shown : Diagnostic → Shown
flag_shown d = record { first = d.columns.first; last = d.columns.last; kind = kinds.Flag (letter_of d.cause) }

abbrev pub fault_shown : CharacterFault → Shown
fault_shown fault = record { first = fault.first; last = fault.last; kind = kinds.Wrong }

-- the mark in the line of a number
abbrev pub in_line : ℕ → Shown → Mark
in_line number shown = record { line = number; first = shown.first; last = shown.last; kind = shown.kind }

-- what the marks show of a line, wherever it stands, whose card makes this
pub record ShowsLine (line : List ℕ) (outcome : Outcome) (shown : List Shown) : Type 0 where
  pub flags : IsLine line → (told : List Diagnostic) × Explains line outcome.rows told × (shown ≡ map flag_shown told)
  pub faults : (IsLine line → ⊥) → (number : ℕ) × (faults : List CharacterFault) × AreFaults number line faults × (shown ≡ map fault_shown faults)
  pub some : shown ≡ [] → IsLine line

-- marks that show this are added to others
abbrev pub Shows : List Shown → List LineMark → List LineMark → Type 0
Shows shown old new = map shown_of new ≡ map shown_of old ++ shown

-- those of the flags of the card of a line of a text are added
pub record ShowsFlags (text : List ℕ) (number : ℕ) (old new : List LineMark) : Type 0 where
  pub card : List ℕ
  pub outcome : Outcome
  pub told : List Diagnostic
  pub card_is : slice_get (source_of_text text) number ≡ Some card
  pub outcome_is : slice_get (outcomes_of (source_of_text text)) number ≡ Some outcome
  pub explains : Explains card outcome.rows told
  pub added : Shows (map flag_shown told) old new

-- a line of a text, with what the marks show of it
pub record HasShown (text : List ℕ) (number : ℕ) (shown : List Shown) : Type 0 where
  pub line : List ℕ
  pub outcome : Outcome
  pub line_is : slice_get (source_lines text) number ≡ Some line
  pub outcome_is : slice_get (outcomes_of (source_of_text text)) number ≡ Some outcome
  pub shows : ShowsLine line outcome shown

-- those of a line of a text are added
pub record ShowsMarks (text : List ℕ) (number : ℕ) (old new : List LineMark) : Type 0 where
  pub shown : List Shown
  pub has : HasShown text number shown
  pub added : Shows shown old new

-- marks are those of a line of a text
abbrev pub KeepsLine : List ℕ → ℕ → LineMarks → Type 0
KeepsLine text number line = HasShown text number (map shown_of line.marks.items)

-- ---- lines

-- the lines of a text from a number on have these marks
abbrev pub KeepsFrom : List ℕ → ℕ → List LineMarks → Type 0
KeepsFrom text first kept = (at : ℕ) (line : LineMarks) → slice_get kept at ≡ Some line → KeepsLine text (first + at) line

-- these are the marks of all lines of a text that are looked at, but for stale ones
pub record AreKeptBut (text : List ℕ) (stale : List ℕ) (kept : List LineMarks) : Type 0 where
  pub count : length kept ≡ length (source_of_text text)
  pub each : (at : ℕ) (line : LineMarks) → slice_get kept at ≡ Some line → All (λ place. place ≡ at → ⊥) stale → KeepsLine text at line

abbrev pub AreKept : List ℕ → List LineMarks → Type 0
AreKept text kept = AreKeptBut text [] kept

-- the marks of the line of a place are made anew, whichever others are stale
abbrev pub IsRenewed : List ℕ → ℕ → List LineMarks → List LineMarks → Type 0
IsRenewed text place old new = (stale : List ℕ) → AreKeptBut text (place ∷ stale) old → AreKeptBut text stale new

-- ---- a change

-- cards came in the place of those from one up to another; this tells how many they are, and which other lines of the source were made anew
pub record IsTold (old : List (List ℕ)) (from to : ℕ) (cards new : List (List ℕ)) (touched : TouchedLines) : Type 0 where
  pub first : touched.first ≡ from
  pub end : touched.end ≡ to
  pub count : touched.count ≡ length cards
  pub redone : AreRedone (outcomes_of old) (splice_at from to cards) (outcomes_of new) touched.redone.places.items

-- Lines of one text from `first` up to `end` gave way to so many lines of another text. Beside these each line stands where it stood, and beside some others
-- each has the outcome that it had.
pub record AreTouchedBy (old new : List ℕ) (first end so_many : ℕ) (places : List ℕ) : Type 0 where
  pub ordered : first ≤ end
  pub within : end ≤ length (source_of_text old)
  pub count : length (source_of_text new) ≡ first + so_many + (length (source_of_text old) - end)
  pub lines : (at : ℕ) → IsLeft first so_many at → slice_get (source_lines new) at ≡ slice_get (source_lines old) (place_before first end so_many at)
  pub outcomes : (at : ℕ) → IsLeft first so_many at → All (λ place. place ≡ at → ⊥) places
      → slice_get (outcomes_of (source_of_text new)) at ≡ slice_get (outcomes_of (source_of_text old)) (place_before first end so_many at)

-- what is told of a change's lines
abbrev pub AreTouched : List ℕ → List ℕ → TouchedLines → Type 0
AreTouched old new touched = AreTouchedBy old new touched.first touched.end touched.count touched.redone.places.items

-- the marks were kept of the text before that
abbrev pub AreLeft : List ℕ → List LineMarks → TouchedLines → Type 0
AreLeft text kept touched = (old : List ℕ) × AreKept old kept × AreTouched old text touched
