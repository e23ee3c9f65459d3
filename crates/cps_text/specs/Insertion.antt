-- The text that a line of a macro's body gives. From the manual's sections on macro definitions and on the concatenation mark.
use Rattle.std.specs.Prelude.{ℕ, Bool, not, ◌||◌, List, map, filter, codes, Option, option_map, option_and_then, unwrap_or, if◌then◌else◌}
use Rattle.std.specs.Borrow.{Bor}
use Rattle.std.specs.List.{find, flat_map}
use Rattle.cps_text.specs.declared.name.Name.{Name}
use Rattle.cps_text.specs.Card.{card, is_comment}
use Rattle.cps_text.specs.Name.{is_one, name_of}
use Rattle.cps_text.specs.Runs.{runs}
use Rattle.cps_text.specs.Text.{among, capital, is_digit, is_letter}

-- a parameter stands in a run of letters, digits and points
abbrev pub is_of_run : ℕ → Bool
is_of_run character = is_letter (capital character) || (is_digit 10 character || among (codes ".") character)

-- names with their texts
abbrev pub Pairs : Type 0
Pairs = List (Name × List ℕ)

abbrev pub pairs_value : List (Name × Bor (List ℕ)) → Pairs
pairs_value pairs = map (λ pair. (pair.0, pair.1.now)) pairs

-- the text that stands for a name; the first pair of it counts
abbrev pub text_of : Pairs → Name → Option (List ℕ)
text_of pairs name = option_map (λ pair. pair.1) (find (λ pair. is_one pair.0 name) pairs)

-- that for a run that writes a name, in capitals or not
abbrev pub text_for : Pairs → List ℕ → Option (List ℕ)
text_for pairs run = option_and_then (text_of pairs) (name_of run)

-- the mark that joins what stands before and behind it
abbrev pub is_mark : ℕ → Bool
is_mark = among (codes "_")

abbrev pub without_marks : List ℕ → List ℕ
without_marks text = filter (λ c. not (is_mark c)) text

-- the text of a run's pair as it is; other runs without marks
abbrev pub replaced : Pairs → List ℕ → List ℕ
replaced pairs run = unwrap_or (text_for pairs run) (without_marks run)

-- a comment stays as it is
abbrev pub inserted : Pairs → List ℕ → List ℕ
inserted pairs body = if is_comment (card body) then body else flat_map (replaced pairs) (runs is_of_run body)
