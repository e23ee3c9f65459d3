-- What an octal text gives of a word, as it is told. Our own.
use Rattle.std.specs.Prelude.{ℕ, Bool, List, map, count_by, if◌then◌else◌}
use Rattle.std.specs.List.{list_any}
use Rattle.cps_claims.specs.declared.claimed_word.ClaimedDigit.{ClaimedDigit}
use Rattle.cps_claims.specs.Parts.{is_octal}
use Rattle.cps_claims.specs.Claims.{Claimed}
use Rattle.cps_claims.specs.Counts.{places}
use Rattle.cps_claims.specs.Shown.{shown_digit, again_digit, is_unknown, is_denied}
use Rattle.cps_list.specs.Listing.{trimmed}

-- what is shown of each digit of a word; the first has place 0
abbrev pub Given : Type 0
Given = ℕ → ClaimedDigit

abbrev pub given_at : List Claimed → ℕ → Given
given_at claims address place = record { shown = shown_digit claims address place; again = again_digit claims address place }

-- the digits that are given, from the first on
abbrev pub shown_word : Given → List ℕ
shown_word given = trimmed (map (λ place. (given place).shown) places)

-- ---- digits that are given twice

abbrev pub said_again : ClaimedDigit → ℕ
said_again digit = if is_denied digit then digit.again else digit.shown

-- the same word with the digits that are said again
abbrev pub again_word : Given → List ℕ
again_word given = trimmed (map (λ place. said_again (given place)) places)

-- whether some digit is given twice, with two values
abbrev pub has_denied : Given → Bool
has_denied given = list_any (λ place. is_denied (given place)) places

-- ---- how many

-- digits that can be read
abbrev pub known_in : Given → ℕ
known_in given = count_by (λ place. is_octal (given place).shown) places

-- digits that can't be read
abbrev pub unknown_in : Given → ℕ
unknown_in given = count_by (λ place. is_unknown (given place)) places

abbrev pub denied_in : Given → ℕ
denied_in given = count_by (λ place. is_denied (given place)) places
