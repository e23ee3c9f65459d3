-- What is wrong in a text, as an editor marks it: each flag, and each byte that no line may have. Our own.
use Rattle.std.specs.Prelude.{◌≡◌, ℕ, ◌+◌, ◌-◌, Bool, true, false, List, [], ◌∷◌, ◌++◌, length, map}
use Rattle.cps_text.specs.Line.{IsLine}
use Rattle.cps_final.specs.Outcome.{Outcome}
use Rattle.cps_cause.specs.declared.letter.Letter.TheVariants.{E}
use Rattle.cps_cause.specs.declared.diagnostic.Diagnostic.{Diagnostic}
use Rattle.cps_cause.specs.Letters.{letter_of}
use Rattle.cps_cause.specs.Explaining.{Explains}
use Rattle.cps_input.specs.declared.character_fault.CharacterFault.{CharacterFault}
use Rattle.cps_input.specs.Faults.{AreFaults}
use Rattle.cps_rpc.specs.Lines.{source_lines}
use Rattle.cps_edit.specs.Assembly.{outcomes_of, ends_open}
use Rattle.cps_server.specs.Document.{source_of_text}
use Rattle.cps_server.specs.declared.mark_kind.MarkKind.{MarkKind}
use Rattle.cps_server.specs.declared.mark_kind.MarkKind.TheVariants as kinds
use Rattle.cps_server.specs.declared.mark.Mark as made

-- A mark: its line, from 0; the columns where it shows, from 1, which are bytes of the line; and what it marks.
pub record Mark : Type 0 where
  pub line : ℕ
  pub first : ℕ
  pub last : ℕ
  pub kind : MarkKind

-- a mark without its message
abbrev pub place_of : made.Mark → Mark
place_of mark = record { line = mark.line; first = mark.columns.first; last = mark.columns.last; kind = mark.kind }

-- ---- a line

-- a cause of a flag of a line
abbrev pub flag_mark : ℕ → Diagnostic → Mark
flag_mark line d = record { line = line; first = d.columns.first; last = d.columns.last; kind = kinds.Flag (letter_of d.cause) }

-- bytes that no line may have
abbrev pub fault_mark : ℕ → CharacterFault → Mark
fault_mark line fault = record { line = line; first = fault.first; last = fault.last; kind = kinds.Wrong }

-- The marks of a line of a number, from 0, whose card makes this: of one that a source may have a cause of each flag, and of another what is wrong in it.
-- A line without a mark is one that a source may have.
pub record MarksLine (number : ℕ) (line : List ℕ) (outcome : Outcome) (marks : List Mark) : Type 0 where
  pub flags : IsLine line → (told : List Diagnostic) × Explains line outcome.rows told × (marks ≡ map (flag_mark number) told)
  pub faults : (IsLine line → ⊥) → (faults : List CharacterFault) × AreFaults (number + 1) line faults × (marks ≡ map (fault_mark number) faults)
  pub some : marks ≡ [] → IsLine line

-- ---- a text

-- a line that is one too many
abbrev pub excess_mark : ℕ → Mark
excess_mark number = record { line = number; first = 1; last = 1; kind = kinds.Wrong }

-- the marks of lines from a number on; of those for which no card stands the first is marked, as one too many
abbrev pub MarksLines : ℕ → List (List ℕ) → List Outcome → List Mark → Type 0
MarksLines number [] outcomes marks = marks ≡ []
MarksLines number (line ∷ lines) [] marks = marks ≡ excess_mark number ∷ []
MarksLines number (line ∷ lines) (outcome ∷ outcomes) marks =
    (here back : List Mark) × (marks ≡ here ++ back) × MarksLine number line outcome here × MarksLines (number + 1) lines outcomes back

-- the mark where a source ends, in its last line: of a range that is open there
abbrev pub MarksEnd : Bool → ℕ → List Mark → Type 0
MarksEnd false last marks = marks ≡ []
MarksEnd true last marks = (mark : Mark) × (marks ≡ mark ∷ []) × (mark.line ≡ last) × (mark.kind ≡ kinds.Flag E)

-- The marks of a text: of the lines that batch assembly reads of it, with what two-pass assembly makes of their cards.
pub record Marks (text : List ℕ) (marks : List Mark) : Type 0 where
  pub of_lines : List Mark
  pub of_end : List Mark
  pub all : marks ≡ of_lines ++ of_end
  pub each : MarksLines 0 (source_lines text) (outcomes_of (source_of_text text)) of_lines
  pub end : MarksEnd (ends_open (source_of_text text)) (length (source_of_text text) - 1) of_end
