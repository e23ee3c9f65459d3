-- For the code, not part of what a reader believes: a text to which more is added.
use Rattle.std.specs.Prelude.{◌≡◌, ℕ, ◌+◌, Bool, nat_lt, List, [], ◌∷◌, ◌++◌, if◌then◌else◌}
use Rattle.cps_edit.specs.Assembly.{ends_open}
use Rattle.cps_edit.specs.Limits.{most_lines}
use Rattle.cps_final.specs.Outcome.{Outcome}
use Rattle.cps_check.specs.Reports.{AreAsked, Report, ReportsLine, ReportsLines, ReportsEnd, Reports, excess_report, has_errors}
use Rattle.cps_check.specs.Check.{IsCheckOf}
use Rattle.cps_check.specs.Texts.{Tells}

-- what tells these reports is added to a text
pub record Adds (name : List ℕ) (reports : List Report) (old new : List ℕ) : Type 0 where
  pub piece : List ℕ
  pub added : new ≡ old ++ piece
  pub tells : Tells name reports piece

-- what is told of a line is added to a text, and whether an error is; without notes where errors alone are asked for
pub record AddsLine (errors_only : Bool) (name : List ℕ) (number : ℕ) (line : List ℕ) (outcome : Outcome) (is_wrong : Bool) (old new : List ℕ) : Type 0 where
  pub reports : List Report
  pub told : ReportsLine number line outcome reports
  pub asked : AreAsked errors_only reports
  pub wrong : is_wrong ≡ has_errors reports
  pub added : Adds name reports old new

-- the same of the first lines
pub record AddsLines (errors_only : Bool) (name : List ℕ) (lines : List (List ℕ)) (outcomes : List Outcome) (is_wrong : Bool) (old new : List ℕ) : Type 0 where
  pub reports : List Report
  pub told : ReportsLines 1 lines outcomes reports
  pub asked : AreAsked errors_only reports
  pub wrong : is_wrong ≡ has_errors reports
  pub added : Adds name reports old new

-- the same of the end of a source with these cards
pub record AddsEnd (errors_only : Bool) (name : List ℕ) (cards : List (List ℕ)) (is_wrong : Bool) (old new : List ℕ) : Type 0 where
  pub reports : List Report
  pub told : ReportsEnd (ends_open cards) cards reports
  pub asked : AreAsked errors_only reports
  pub wrong : is_wrong ≡ has_errors reports
  pub added : Adds name reports old new

-- what is told of so many lines beside what is told of each
abbrev pub excess_of : ℕ → List Report
excess_of count = if nat_lt most_lines count then excess_report (most_lines + 1) ∷ [] else []

-- a text tells all that is told of lines, and whether an error is
pub record TellsSource (errors_only : Bool) (name : List ℕ) (lines : List (List ℕ)) (text : List ℕ) (is_wrong : Bool) : Type 0 where
  pub reports : List Report
  pub all : Reports lines reports
  pub asked : AreAsked errors_only reports
  pub tells : Tells name reports text
  pub wrong : is_wrong ≡ has_errors reports

-- the same of an input with these bytes
pub record TellsBytes (errors_only : Bool) (name bytes text : List ℕ) (is_wrong : Bool) : Type 0 where
  pub told : IsCheckOf errors_only name bytes text
  pub wrong : is_wrong ≡ has_errors told.reports
