-- What is shown of the digits that are claimed for a word, and of the rows that have them. Our own.
use Prim.Native.Char.{code}
use Rattle.std.specs.Prelude.{◌≡◌, ℕ, Bool, not, ◌==◌, ◌&&◌, ◌||◌, List, [], ◌∷◌, ◌++◌, fold, find, Option, if◌then◌else◌, slice_index_or}
use Rattle.std.specs.List.{list_any}
use Rattle.std.specs.Option.{option_map_or}
use Rattle.cps_claims.specs.declared.claimed_word.ClaimedDigit.{ClaimedDigit}
use Rattle.cps_claims.specs.declared.claimed_word.ClaimedWord.{ClaimedWord}
use Rattle.cps_claims.specs.Parts.{is_octal}
use Rattle.cps_claims.specs.Claims.{Claimed, known}
use Rattle.cps_claims.specs.Counts.{is_for}

-- the first claim for a digit that can be read
abbrev pub first_known : List Claimed → ℕ → ℕ → Option Claimed
first_known claims address place = find (is_for address place) (known claims)

-- its digit; else a question mark for a digit that can't be read, a blank where none is claimed
abbrev pub shown_digit : List Claimed → ℕ → ℕ → ℕ
shown_digit claims address place =
    option_map_or (λ claim. claim.digit) (first_known claims address place)
    (if list_any (is_for address place) claims then code "?" else code " ")

-- the first digit that can be read and isn't this one, else a blank
abbrev pub other_digit : List Claimed → ℕ → ℕ → ℕ → ℕ
other_digit claims address place digit =
    option_map_or (λ claim. claim.digit)
    (find (λ claim. is_for address place claim && not (claim.digit == digit)) (known claims))
    (code " ")

-- the first digit that is contrary to the first one
abbrev pub again_digit : List Claimed → ℕ → ℕ → ℕ
again_digit claims address place =
    option_map_or (λ first. other_digit claims address place first.digit) (first_known claims address place) (code " ")

-- the first row that claims a digit of a word; 0 where none does
abbrev pub first_row : List Claimed → ℕ → ℕ
first_row claims address = option_map_or (λ claim. claim.row) (find (λ claim. claim.address == address) claims) 0

-- ---- the rows that have them

-- whether a claim tells something of its digit that those before it don't
abbrev pub is_news : List Claimed → Claimed → Bool
is_news before claim =
    let shown = shown_digit before claim.address claim.place in
    not (is_octal shown) && (is_octal claim.digit || not (shown == code "?"))

-- whether a claim is contrary to those before it
abbrev pub is_denial : List Claimed → Claimed → Bool
is_denial before claim =
    let shown = shown_digit before claim.address claim.place in
    is_octal shown && is_octal claim.digit && not (claim.digit == shown)

-- the rows of the claims for a word that pass, each beside those before it
abbrev pub rows_passing : (List Claimed → Claimed → Bool) → ℕ → List Claimed → List Claimed → List ℕ
rows_passing test address before [] = []
rows_passing test address before (claim ∷ claims) =
    let behind = rows_passing test address (before ++ claim ∷ []) claims in
    if (claim.address == address) && test before claim then claim.row ∷ behind else behind

-- the first of some rows, and the last; 0 where there is none
abbrev pub first_of_rows : List ℕ → ℕ
first_of_rows [] = 0
first_of_rows (row ∷ rows) = row

abbrev pub last_of_rows : List ℕ → ℕ
last_of_rows rows = fold (λ last row. row) 0 rows

-- the last row that tells something new of a word
abbrev pub last_row : List Claimed → ℕ → ℕ
last_row claims address = last_of_rows (rows_passing is_news address [] claims)

-- the first row that is contrary to those before it
abbrev pub again_row : List Claimed → ℕ → ℕ
again_row claims address = first_of_rows (rows_passing is_denial address [] claims)

-- nothing is claimed of a digit
abbrev pub nothing : ClaimedDigit
nothing = record { shown = code " "; again = code " " }

-- whether a digit is claimed that nobody can read
abbrev pub is_unknown : ClaimedDigit → Bool
is_unknown digit = digit.shown == code "?"

-- whether a later row has another digit
abbrev pub is_denied : ClaimedDigit → Bool
is_denied digit = is_octal digit.again

-- what is kept of the digit at a place
abbrev pub kept_digit : ClaimedWord → ℕ → ClaimedDigit
kept_digit word place = slice_index_or word.digits place nothing

-- a word as it is shown; places count from 0
pub record Shows (claims : List Claimed) (address : ℕ) (word : ClaimedWord) : Type 0 where
  pub digits : (place : ℕ) → (kept_digit word place).shown ≡ shown_digit claims address place
  pub contrary : (place : ℕ) → (kept_digit word place).again ≡ again_digit claims address place
  pub first : word.first_row ≡ first_row claims address
  pub last : word.last_row ≡ last_row claims address
  pub again : word.again_row ≡ again_row claims address
