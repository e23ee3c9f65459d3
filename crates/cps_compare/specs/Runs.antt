-- The words that differ, in the order of their addresses. The layout is our own.
use Rattle.std.specs.Prelude.{ℕ, ◌+◌, ◌-◌, Bool, not, ◌||◌, nat_le, List, [], ◌++◌, length, filter, flat_map, take, drop, codes, decimal, slice_index, if◌then◌else◌}
use Rattle.std.specs.List.{range_with_len, slice_split}
use Rattle.cps_text.specs.Octal.{octal}
use Rattle.cps_compare.specs.Findings.{Findings}

-- the addresses from one to another
abbrev pub addresses : ℕ → ℕ → List ℕ
addresses low high = range_with_len low (high + 1 - low)

abbrev pub compared : Findings → ℕ → ℕ → List ℕ
compared found low high = filter found.is_compared (addresses low high)

-- ---- runs of words that differ one after another

-- how many more words differ, from one address to another
abbrev pub more_row : ℕ → ℕ → ℕ → List ℕ
more_row first last count =
    octal 6 first ++ codes " to " ++ octal 6 last ++ codes ": " ++ decimal count ++ codes " more words differ\n"

abbrev pub rest_row : List ℕ → List ℕ
rest_row rest = more_row (slice_index rest 0) (slice_index rest (length rest - 1)) (length rest)

-- Of more than five the first four are told, and how many are left, unless all are to be told.
abbrev pub run_rows : Findings → Bool → List ℕ → List ℕ
run_rows found all run =
    if all || nat_le (length run) 5 then flat_map found.told run
    else flat_map found.told (take 4 run) ++ rest_row (drop 4 run)

-- the words of a run are compared one after another, and each differs
abbrev pub runs_of : Findings → List ℕ → List (List ℕ)
runs_of found run = slice_split (λ address. not (found.differs address)) run

-- the rows of all words that differ, by rising addresses
abbrev pub differing_rows : Findings → Bool → ℕ → ℕ → List ℕ
differing_rows found all low high = flat_map (run_rows found all) (runs_of found (compared found low high))
