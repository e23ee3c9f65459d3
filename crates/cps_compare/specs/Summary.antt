-- How much was compared, and what was not: the last rows of a comparison. The layout is our own.
use Rattle.std.specs.Prelude.{ℕ, Bool, nat_lt, List, [], ◌++◌, length, slice_get, Option, flat_map, codes, decimal, if◌then◌else◌}
use Rattle.std.specs.List.{count_by, find, sum_by}
use Rattle.std.specs.Option.{option_map_or}
use Rattle.cps_text.specs.Octal.{octal}
use Rattle.cps_claims.specs.declared.reading.UnreadRow.{UnreadRow}
use Rattle.cps_claims.specs.Reading.{is_read, is_other, unread_from, first_other_from}
use Rattle.cps_claims.specs.Reasons.{reason_text}
use Rattle.cps_compare.specs.Findings.{Findings}
use Rattle.cps_compare.specs.Runs.{addresses, differing_rows}

abbrev pub one_if : Bool → ℕ
one_if test = if test then 1 else 0

-- ---- the rows

abbrev pub compared_row : Findings → List ℕ → List ℕ
compared_row found among =
    codes "compared: " ++ decimal (sum_by found.known among) ++ codes " digits of " ++ decimal (count_by found.is_given among)
    ++ codes " words, in " ++ decimal (count_by is_read found.rows) ++ codes " rows\n"

-- how many there are, and at which address the first is; no row where there is none
abbrev pub tally_row : List ℕ → List ℕ → (ℕ → ℕ) → List ℕ → List ℕ
tally_row before behind count among =
    option_map_or
    (λ first. before ++ decimal (sum_by count among) ++ behind ++ codes ", first at " ++ octal 6 first ++ codes "\n")
    (find (λ address. nat_lt 0 (count address)) among)
    []

-- how many rows of the text aren't read, and the first
abbrev pub unread_row : ℕ → Option UnreadRow → List ℕ
unread_row count first =
    option_map_or
    (λ (row : UnreadRow).
    codes "not read: " ++ decimal count ++ codes " rows, first row " ++ decimal row.number ++ codes ": " ++ reason_text row.reason ++ codes "\n")
    first
    []

-- how many have other text, and the first
abbrev pub other_row : ℕ → Option ℕ → List ℕ
other_row count first =
    option_map_or (λ first. codes "other text: " ++ decimal count ++ codes " rows, first row " ++ decimal first ++ codes "\n") first []

-- each row that isn't read
abbrev pub unread_told : UnreadRow → List ℕ
unread_told row = codes "row " ++ decimal row.number ++ codes " isn't read: " ++ reason_text row.reason ++ codes "\n"

abbrev pub each_unread : List UnreadRow → List ℕ
each_unread rows = flat_map unread_told rows

abbrev pub differing_row : ℕ → ℕ → ℕ → ℕ → List ℕ
differing_row differing compared low high =
    decimal differing ++ codes " of " ++ decimal compared ++ codes " words differ (" ++ octal 6 low ++ codes " to " ++ octal 6 high ++ codes ")\n"

abbrev pub count_differing : Findings → ℕ → ℕ → ℕ
count_differing found low high = count_by found.differs (addresses low high)

abbrev pub summary : Findings → ℕ → ℕ → List ℕ
summary found low high =
    let among = addresses low high in
    let unread_rows = unread_from 1 found.rows in
    compared_row found among
    ++ tally_row (codes "unknown: ") (codes " digits") found.unknown among
    ++ tally_row (codes "twice: ") (codes " digits with two values") found.denied among
    ++ tally_row (codes "not given: ") (codes " words of the deck") (λ address. one_if (found.is_absent address)) among
    ++ tally_row (codes "in part: ") (codes " words") (λ address. one_if (found.is_in_part address)) among
    ++ unread_row (length unread_rows) (slice_get unread_rows 0)
    ++ other_row (count_by is_other found.rows) (first_other_from 1 found.rows)
    ++ differing_row (count_differing found low high) (count_by found.is_compared among) low high

-- What is told: the words that differ; where code moved; each row that isn't read, where all are to be told; and the summary.
abbrev pub told_text : Findings → Bool → List ℕ → ℕ → ℕ → List ℕ
told_text found all drift low high =
    differing_rows found all low high ++ drift ++ (if all then each_unread (unread_from 1 found.rows) else []) ++ summary found low high
