-- What is told, as text: in the form that compilers have, and that editors take. Our own.
use Rattle.std.specs.Prelude.{◌≡◌, ℕ, true, List, [], ◌∷◌, ◌++◌, codes, decimal}
use Rattle.cps_state.specs.Flags.{letters}
use Rattle.cps_cause.specs.declared.letter.Letter.{Letter}
use Rattle.cps_cause.specs.Letters.{only}
use Rattle.cps_cause.specs.Sentence.{IsSentence}
use Rattle.cps_check.specs.declared.report_kind.ReportKind.{ReportKind}
use Rattle.cps_check.specs.declared.report_kind.ReportKind.TheVariants as kinds
use Rattle.cps_check.specs.Reports.{Report}

abbrev pub flag_text : Letter → List ℕ
flag_text letter = codes "error: " ++ letters (only letter true) ++ codes ": "

abbrev pub kind_text : ReportKind → List ℕ
kind_text (kinds.Flag letter) = flag_text letter
kind_text kinds.Wrong = codes "error: "
kind_text kinds.Note = codes "note: "

-- what a report begins with, behind the name of the source
abbrev pub head_of : List ℕ → ℕ → ℕ → ReportKind → List ℕ
head_of name number column kind = name ++ codes ":" ++ decimal number ++ codes ":" ++ decimal column ++ codes ": " ++ kind_text kind

-- the text of a report: behind its head stand words in one row, which no definition fixes, and below them its rows
pub record IsTold (name : List ℕ) (report : Report) (text : List ℕ) : Type 0 where
  pub words : List ℕ
  pub sentence : IsSentence words
  pub whole : text ≡ head_of name report.number report.column report.kind ++ words ++ codes "\n" ++ report.rows

-- the texts of reports, one behind the other
abbrev pub Tells : List ℕ → List Report → List ℕ → Type 0
Tells name [] text = text ≡ []
Tells name (report ∷ reports) text = (here back : List ℕ) × (text ≡ here ++ back) × IsTold name report here × Tells name reports back
