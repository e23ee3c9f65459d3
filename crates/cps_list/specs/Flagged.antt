-- The flags text: the flagged lines with their letters, the end if the source ends while a range is open, and how many they are.
-- The layout is our profile's.
use Rattle.std.specs.Prelude.{ℕ, ◌+◌, Bool, List, [], ◌∷◌, ◌++◌, codes, decimal, if◌then◌else◌}
use Rattle.cps_state.specs.declared.flags.Flags.{Flags}
use Rattle.cps_state.specs.Flags.{has_flag, letters}
use Rattle.cps_final.specs.Outcome.{Outcome, flags_of}
use Rattle.cps_list.specs.Assembly.{Assembly}

-- the row of a line; no row for a line without a flag
abbrev pub flag_row : ℕ → Flags → List ℕ
flag_row number flags = if has_flag flags then decimal number ++ codes " " ++ letters flags ++ codes "\n" else []

-- the rows of lines that have numbers from one on
abbrev pub flag_rows_from : ℕ → List Outcome → List ℕ
flag_rows_from number [] = []
flag_rows_from number (outcome ∷ outcomes) = flag_row number (flags_of outcome.rows) ++ flag_rows_from (number + 1) outcomes

abbrev pub count_if : Bool → ℕ
count_if is_flagged = if is_flagged then 1 else 0

-- how many lines have a flag
abbrev pub flagged_in : List Outcome → ℕ
flagged_in [] = 0
flagged_in (outcome ∷ outcomes) = count_if (has_flag (flags_of outcome.rows)) + flagged_in outcomes

-- the end of a source where a range is open counts as one
abbrev pub flagged_with : Bool → List Outcome → ℕ
flagged_with is_open outcomes = flagged_in outcomes + count_if is_open

-- the row of the end
abbrev pub end_row : Bool → List ℕ
end_row is_open = if is_open then codes "end E\n" else []

-- the row of their number
abbrev pub count_row : ℕ → List ℕ
count_row count = decimal count ++ codes " flagged lines\n"

-- the rows, and the number of flagged lines
abbrev pub flags_text : Assembly → List ℕ
flags_text assembly =
    flag_rows_from 1 assembly.outcomes ++ end_row assembly.is_open ++ count_row (flagged_with assembly.is_open assembly.outcomes)
