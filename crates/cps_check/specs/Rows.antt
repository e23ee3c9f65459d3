-- The rows that show where in a line something is. Our own.
use Prim.Native.Char.{code}
use Rattle.std.specs.Prelude.{ℕ, ◌-◌, ◌==◌, nat_le, List, [], ◌∷◌, ◌++◌, length, take, codes, decimal, replicate, if◌then◌else◌}
use Rattle.cps_list.specs.Columns.{at_right, blanks}
use Rattle.cps_cause.specs.declared.diagnostic.Diagnostic.{Diagnostic}
use Rattle.cps_cause.specs.Sentence.{cleaned}
use Rattle.cps_input.specs.declared.character_fault.CharacterFault.{CharacterFault}
use Rattle.cps_input.specs.Shown.{shown, shown_width}
use Rattle.cps_check.specs.declared.limits.TheConstants.{MOST_SHOWN}
use Rattle.cps_check.specs.declared.notes.Note.{Note}

-- the line behind its number
abbrev pub line_row : ℕ → List ℕ → List ℕ
line_row number line = at_right 5 (decimal number) ++ codes " | " ++ line ++ codes "\n"

-- carets below the columns of what is shown that stand behind so many, up to the last; one at least
abbrev pub caret_row : ℕ → ℕ → List ℕ
caret_row before last = codes "      | " ++ blanks before ++ codes "^" ++ replicate (last - before - 1) (code "^") ++ codes "\n"

-- ---- the statement of the line's expansion that is meant

-- how often it comes, where that is more than once
abbrev pub times_text : ℕ → List ℕ
times_text times = if nat_le times 1 then [] else codes " (" ++ decimal times ++ codes " times)"

-- a text from its first character on that is no blank
abbrev pub unindented : List ℕ → List ℕ
unindented [] = []
unindented (c ∷ text) = if c == code " " then unindented text else c ∷ text

-- the row of a statement; none where no text stands, which is the line's own statement
abbrev pub stated_row : List ℕ → ℕ → List ℕ
stated_row statement times = codes "      = in its expansion: " ++ cleaned (unindented statement) ++ times_text times ++ codes "\n"

abbrev pub statement_row : List ℕ → ℕ → List ℕ
statement_row statement times = if length statement == 0 then [] else stated_row statement times

-- the rows that show a cause of a flag
abbrev pub flag_rows : ℕ → List ℕ → Diagnostic → List ℕ
flag_rows number line d = line_row number line ++ caret_row (d.columns.first - 1) d.columns.last ++ statement_row d.statement d.times

-- the rows that show a note
abbrev pub note_rows : ℕ → List ℕ → Note → List ℕ
note_rows number line note = line_row number line ++ caret_row (note.columns.first - 1) note.columns.last

-- ---- lines that no source may have

-- as much of a line as is shown
abbrev pub front_of : List ℕ → List ℕ
front_of line = take MOST_SHOWN line

-- the rows that show bad bytes
abbrev pub fault_rows : ℕ → List ℕ → CharacterFault → List ℕ
fault_rows number line fault =
    line_row number (shown (front_of line))
    ++ caret_row (shown_width (take (fault.first - 1) (front_of line))) (shown_width (take fault.last (front_of line)))
