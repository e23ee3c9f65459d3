-- What is told of a source: each flag, each byte that no line may have, and notes. Our own.
use Rattle.std.specs.Prelude.{◌≡◌, ℕ, ◌+◌, Bool, true, false, not, List, [], ◌∷◌, ◌++◌, length, map, slice_get, Some}
use Rattle.std.specs.List.{list_any}
use Rattle.cps_text.specs.Line.{IsLine}
use Rattle.cps_final.specs.Outcome.{Outcome}
use Rattle.cps_cause.specs.declared.letter.Letter.TheVariants.{E}
use Rattle.cps_cause.specs.declared.diagnostic.Diagnostic.{Diagnostic}
use Rattle.cps_cause.specs.Letters.{letter_of}
use Rattle.cps_cause.specs.Range.{IsRange}
use Rattle.cps_cause.specs.Explaining.{Explains}
use Rattle.cps_cause.specs.Opener.{IsOpener}
use Rattle.cps_input.specs.declared.character_fault.CharacterFault.{CharacterFault}
use Rattle.cps_input.specs.Card.{cards_of}
use Rattle.cps_input.specs.Faults.{AreFaults}
use Rattle.cps_edit.specs.Assembly.{outcomes_of, ends_open, traces_of}
use Rattle.cps_check.specs.declared.report_kind.ReportKind.{ReportKind}
use Rattle.cps_check.specs.declared.report_kind.ReportKind.TheVariants as kinds
use Rattle.cps_check.specs.declared.notes.Note.{Note}
use Rattle.cps_check.specs.Rows.{flag_rows, fault_rows, note_rows}

-- What is told of a place: the number of its line and its column, both from 1; whether it is a flag, what no source may have or a note; and the rows
-- that show it.
pub record Report : Type 0 where
  pub number : ℕ
  pub column : ℕ
  pub kind : ReportKind
  pub rows : List ℕ

-- whether an error is told, and no note
abbrev pub is_error : ReportKind → Bool
is_error (kinds.Flag letter) = true
is_error kinds.Wrong = true
is_error kinds.Note = false

abbrev pub has_errors : List Report → Bool
has_errors reports = list_any (λ report. is_error report.kind) reports

abbrev pub has_notes : List Report → Bool
has_notes reports = list_any (λ report. not (is_error report.kind)) reports

-- no note is among reports where errors alone are asked for
abbrev pub AreAsked : Bool → List Report → Type 0
AreAsked errors_only reports = errors_only ≡ true → has_notes reports ≡ false

-- ---- a line

-- a cause of a flag
abbrev pub flag_report : ℕ → List ℕ → Diagnostic → Report
flag_report number line d = record {
  number = number;
  column = d.columns.first;
  kind = kinds.Flag (letter_of d.cause);
  rows = flag_rows number line d;
}

-- bytes that no line may have
abbrev pub fault_report : ℕ → List ℕ → CharacterFault → Report
fault_report number line fault = record { number = number; column = fault.first; kind = kinds.Wrong; rows = fault_rows number line fault }

-- what may stand in the line and is often not meant so; when a note comes no definition fixes
abbrev pub note_report : ℕ → List ℕ → Note → Report
note_report number line note = record { number = number; column = note.columns.first; kind = kinds.Note; rows = note_rows number line note }

-- of a line that a source may have: a cause of each flag, and notes behind them
pub record ReportsFlags (number : ℕ) (line : List ℕ) (outcome : Outcome) (reports : List Report) : Type 0 where
  pub told : List Diagnostic
  pub notes : List Note
  pub explains : Explains line outcome.rows told
  pub all : reports ≡ map (flag_report number line) told ++ map (note_report number line) notes

-- What is told of a line whose card makes this: of one that a source may have its flags, and of another what is wrong in it.
pub record ReportsLine (number : ℕ) (line : List ℕ) (outcome : Outcome) (reports : List Report) : Type 0 where
  pub flags : IsLine line → ReportsFlags number line outcome reports
  pub faults : (IsLine line → ⊥) → (faults : List CharacterFault) × AreFaults number line faults × (reports ≡ map (fault_report number line) faults)
  pub some : has_errors reports ≡ false → IsLine line

-- ---- a source

-- a line that is one too many
abbrev pub excess_report : ℕ → Report
excess_report number = record { number = number; column = 1; kind = kinds.Wrong; rows = [] }

-- what is told of lines from a number on; of those for which no card stands the first is told, as one too many
abbrev pub ReportsLines : ℕ → List (List ℕ) → List Outcome → List Report → Type 0
ReportsLines number [] outcomes reports = reports ≡ []
ReportsLines number (line ∷ lines) [] reports = reports ≡ excess_report number ∷ []
ReportsLines number (line ∷ lines) (outcome ∷ outcomes) reports =
    (here back : List Report) × (reports ≡ here ++ back) × ReportsLine number line outcome here × ReportsLines (number + 1) lines outcomes back

-- what is open where a source with these cards ends is told as a flag of the line that opened it
pub record IsOpenTold (cards : List (List ℕ)) (report : Report) : Type 0 where
  pub above : ℕ
  pub card : List ℕ
  pub told : Diagnostic
  pub opener : IsOpener (traces_of cards) above
  pub there : slice_get cards above ≡ Some card
  pub columns : IsRange (length card) told.columns
  pub letter : letter_of told.cause ≡ E
  pub all : report ≡ flag_report (above + 1) card told

-- what is told where it ends, by whether something is open there
abbrev pub ReportsEnd : Bool → List (List ℕ) → List Report → Type 0
ReportsEnd false cards reports = reports ≡ []
ReportsEnd true cards reports = (report : Report) × (reports ≡ report ∷ []) × IsOpenTold cards report

-- what is told of a text with these lines
pub record Reports (lines : List (List ℕ)) (reports : List Report) : Type 0 where
  pub of_lines : List Report
  pub of_end : List Report
  pub all : reports ≡ of_lines ++ of_end
  pub each : ReportsLines 1 lines (outcomes_of (cards_of lines)) of_lines
  pub end : ReportsEnd (ends_open (cards_of lines)) (cards_of lines) of_end
