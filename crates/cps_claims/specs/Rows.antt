-- What each row of an octal text is: read, blank, of other text, or not read. Our own.
use Rattle.std.specs.Prelude.{ℕ, ◌+◌, ◌-◌, ◌/◌, ◌%◌, Bool, not, false, ◌==◌, ◌&&◌, ◌||◌, nat_le, nat_lt, List, [], ◌∷◌, ◌++◌, length, find, Option, None, Some, option_map, is_some, if◌then◌else◌, slice_index, codes}
use Rattle.std.specs.List.{slice_split, list_any, starts_with, repeat}
use Rattle.std.specs.Option.{option_map_or, option_or}
use Rattle.std.specs.Str.{bytes_eq}
use Rattle.std.specs.Char.{eq_ignore_ascii_case}
use Rattle.cps_claims.specs.declared.layout.WordOffset.{WordOffset}
use Rattle.cps_claims.specs.declared.layout.OctalLayout.{OctalLayout}
use Rattle.cps_claims.specs.declared.stand.RowStand.{RowStand}
use Rattle.cps_claims.specs.declared.reason.UnreadReason.{UnreadReason}
use Rattle.cps_claims.specs.declared.reason.UnreadReason.TheVariants.{DamagedDigits, GroupOf, NoAddress, BehindUnread, NoSuchAddress, NoWholeWords, EndlessRepetition, UnevenRepetition, TooManyRepetitions}
use Rattle.cps_claims.specs.Words.{size_of, parcel_of, need_no_groups, is_dump, most_words, moved}
use Rattle.cps_claims.specs.Columns.{columns_read}
use Rattle.cps_claims.specs.Parts.{Part, parts_of, are_digits, looks_like_digits, address_in}

-- digits from a place of the word at an address on
pub record Claim : Type 0 where
  pub address : ℕ
  pub place : ℕ
  pub digits : List ℕ

pub data Row : Type 0 where
  read : Claim → Row
  blank : Row
  other : Row
  unread : UnreadReason → Row

-- ---- the digits of a row

-- the digits that parts begin with, up to a part that has another byte
abbrev pub digits_of : List Part → List ℕ
digits_of [] = []
digits_of (part ∷ parts) = if are_digits part.text then part.text ++ digits_of parts else []

-- how many digits each of these parts has
abbrev pub groups_of : List Part → List ℕ
groups_of [] = []
groups_of (part ∷ parts) = if are_digits part.text then length part.text ∷ groups_of parts else []

-- whether the part behind them looks like digits too
abbrev pub is_damaged : List Part → Bool
is_damaged [] = false
is_damaged (part ∷ parts) = if are_digits part.text then is_damaged parts else looks_like_digits part.text

-- the first group that is none of whole parcels
abbrev pub wrong_group : ℕ → List Part → Option ℕ
wrong_group parcel parts = find (λ count. not (count % parcel == 0)) (groups_of parts)

-- in a dump rows have whole words
abbrev pub part_of_word : OctalLayout → ℕ → Option UnreadReason
part_of_word layout count =
    if is_dump layout.format && not (count % size_of layout.form == 0) then Some NoWholeWords else None

-- what is wrong with the digits of a row
abbrev pub fault_in : OctalLayout → List Part → Option UnreadReason
fault_in layout parts =
    let count = length (digits_of parts) in
    if is_damaged parts then Some DamagedDigits
    else if need_no_groups layout.form count then None
    else option_or (option_map GroupOf (wrong_group (parcel_of layout.form) parts)) (part_of_word layout count)

-- ---- what a row leaves

-- nothing goes on behind a row that isn't read: at its address, else where the rows above it stand
abbrev pub lost_at : RowStand → Option ℕ → Option ℕ
lost_at stand (Some address) = Some address
lost_at stand None = option_map_or (λ place. Some place.address) stand.place stand.lost

-- a row that isn't read, of which the address may be known
abbrev pub unread_at : RowStand → Option ℕ → UnreadReason → Row × RowStand
unread_at stand address reason = (unread reason, record stand { place = None; lost = lost_at stand address })

-- how many words digits reach into
abbrev pub words_in : ℕ → ℕ → ℕ
words_in size count = (count + size - 1) / size

-- how many digits the last of these words has
abbrev pub in_last : ℕ → ℕ → ℕ
in_last size count = if count % size == 0 then size else count % size

-- the address that is meant by one of the text, if so many words from there on have addresses
abbrev pub meant : WordOffset → ℕ → ℕ → Option ℕ
meant offset address words =
    option_map_or (λ at. if nat_le (at + words) most_words then Some at else None) (moved offset address) None

-- digits are read, from a place of a word on
abbrev pub claimed : OctalLayout → RowStand → ℕ → ℕ → List ℕ → Row × RowStand
claimed layout stand address place digits =
    let size = size_of layout.form in
    let count = place + length digits in
    let words = words_in size count in
    option_map_or
    (λ at. (
      read (record { address = at; place = place; digits = digits }),
      record stand { place = Some (record { address = address + words - 1; count = in_last size count }); lost = None },
    ))
    (meant layout.offset address words)
    (unread_at stand (Some address) NoSuchAddress)

-- ---- a row

-- whether a word that has so many digits has room for more
abbrev pub fits : ℕ → ℕ → ℕ → Bool
fits size count more = nat_le (count + more) size

-- a row without an address goes on behind the row above, and stays in its word; in a dump it goes on with the next word
abbrev pub going_on : OctalLayout → RowStand → List ℕ → Row × RowStand
going_on layout stand digits =
    let size = size_of layout.form in
    option_map_or
    (λ place.
    if is_dump layout.format && (place.count == size) then claimed layout stand (place.address + 1) 0 digits
    else if fits size place.count (length digits) then claimed layout stand place.address place.count digits
    else unread_at stand None NoAddress)
    stand.place
    (unread_at stand None (if is_some stand.lost then BehindUnread else NoAddress))

-- where the digits of a row with an address begin: behind those of the row above, if that has the same address and there is room
abbrev pub first_place : ℕ → RowStand → ℕ → ℕ → ℕ
first_place size stand address count =
    option_map_or (λ place. if (place.address == address) && fits size place.count count then place.count else 0) stand.place 0

abbrev pub is_lost : RowStand → ℕ → Bool
is_lost stand address = option_map_or (λ lost. lost == address) stand.lost false

-- a row with an address begins there; at the address of a row that isn't read only whole words do
abbrev pub beginning : OctalLayout → RowStand → ℕ → List ℕ → Row × RowStand
beginning layout stand address digits =
    let size = size_of layout.form in
    if is_lost stand address && nat_lt (length digits) size then unread_at stand (Some address) BehindUnread
    else claimed layout stand address (first_place size stand address (length digits)) digits

-- a first part of digits goes on where it is longer than an address, or begins in the column of the last digits
abbrev pub goes_on : RowStand → Part → Bool
goes_on stand part =
    are_digits part.text && (nat_lt 6 (length part.text) || option_map_or (λ column. column == part.column) stand.column false)

-- a row of digits without an address
abbrev pub digit_row : OctalLayout → RowStand → List Part → Row × RowStand
digit_row layout stand parts =
    option_map_or (unread_at stand None) (fault_in layout parts) (going_on layout stand (digits_of parts))

-- the digits behind an address; rows without an address may begin in their column
abbrev pub address_row : OctalLayout → RowStand → ℕ → List Part → Row × RowStand
address_row layout stand address parts =
    option_map_or (unread_at stand (Some address)) (fault_in layout parts) (beginning layout stand address (digits_of parts))

abbrev pub begun_at : RowStand → ℕ → RowStand
begun_at stand column = record stand { column = Some column }

-- what stands behind an address
abbrev pub behind_address : OctalLayout → RowStand → ℕ → List Part → Row × RowStand
behind_address layout stand address [] = (other, stand)
behind_address layout stand address (part ∷ parts) =
    if are_digits part.text then address_row layout (begun_at stand part.column) address (part ∷ parts)
    else if looks_like_digits part.text then unread_at (begun_at stand part.column) (Some address) DamagedDigits
    else (other, stand)

-- a row that begins with neither digits that go on nor an address
abbrev pub text_row : RowStand → Part → Row × RowStand
text_row stand part = if looks_like_digits part.text then unread_at stand None NoAddress else (other, stand)

-- what a row is, by its parts and by where the rows above it stand; and where it stands then
abbrev pub row_of : OctalLayout → RowStand → List Part → Row × RowStand
row_of layout stand [] = (blank, stand)
row_of layout stand (part ∷ parts) =
    if goes_on stand part then digit_row layout stand (part ∷ parts)
    else option_map_or (λ address. behind_address layout stand address parts) (address_in part.text) (text_row stand part)

-- ---- words that stand again, in a dump

-- whether a part begins with one of the words that say so, in capitals or small letters
abbrev pub says_again : List ℕ → Bool
says_again text = list_any (starts_with eq_ignore_ascii_case text) (codes "DUPL" ∷ codes "REPEAT" ∷ codes "SAME" ∷ [])

-- whether a row says that the words of the row above stand again: by an asterisk alone, or by its first part
abbrev pub is_repetition : List Part → Bool
is_repetition [] = false
is_repetition (part ∷ parts) = says_again part.text || (bytes_eq part.text (codes "*") && (length parts == 0))

-- these digits stand again, from an address on in so many words
abbrev pub words_again : OctalLayout → RowStand → List ℕ → ℕ → ℕ → Row × RowStand
words_again layout stand digits begin count =
    let words = length digits / size_of layout.form in
    if (count == 0) || not (count % words == 0) then unread_at stand None UnevenRepetition
    else if not (fits most_words stand.repeated count) then unread_at stand None TooManyRepetitions
    else claimed layout (record stand { repeated = stand.repeated + count }) begin 0 (repeat (count / words) digits)

-- the digits of the row above stand again, up to the address of the row behind
abbrev pub repetition : OctalLayout → RowStand → List ℕ → Option ℕ → Row × RowStand
repetition layout stand digits None = unread_at stand None EndlessRepetition
repetition layout stand digits (Some end) =
    option_map_or
    (λ place. let begin = place.address + 1 in words_again layout stand digits begin (end - begin))
    stand.place
    (unread_at stand None EndlessRepetition)

-- ---- the rows of a text

-- what a row is among others: by the digits of the last row that is read, and by the address of the row behind it too
abbrev pub row_among : OctalLayout → RowStand → List ℕ → List Part → Option ℕ → Row × RowStand
row_among layout stand digits parts end =
    if is_dump layout.format && is_repetition parts then repetition layout stand digits end else row_of layout stand parts

-- the address with which a row begins
abbrev pub address_of : List Part → Option ℕ
address_of [] = None
address_of (part ∷ parts) = address_in part.text

-- and the first of some rows
abbrev pub first_address : OctalLayout → List (List ℕ) → Option ℕ
first_address layout [] = None
first_address layout (row ∷ rows) = address_of (parts_of (columns_read layout.columns row))

-- the digits of the last row that is read; none behind one that isn't read
abbrev pub digits_behind : List ℕ → Row → List ℕ
digits_behind digits (read claim) = claim.digits
digits_behind digits blank = digits
digits_behind digits other = digits
digits_behind digits (unread reason) = []

abbrev pub rows_from : OctalLayout → RowStand → List ℕ → List (List ℕ) → List Row
rows_from layout stand digits [] = []
rows_from layout stand digits (row ∷ rows) =
    let got = row_among layout stand digits (parts_of (columns_read layout.columns row)) (first_address layout rows) in
    got.0 ∷ rows_from layout got.1 (digits_behind digits got.0) rows

-- before the first row
abbrev pub at_first : RowStand
at_first = record { place = None; column = None; lost = None; repeated = 0 }

abbrev pub rows_of : OctalLayout → List (List ℕ) → List Row
rows_of layout rows = rows_from layout at_first [] rows

abbrev pub newline : ℕ
newline = slice_index (codes "\n") 0

abbrev pub is_newline : ℕ → Bool
is_newline byte = byte == newline

-- the rows of a text; behind a last newline stands one more, which is blank
abbrev pub rows_in : OctalLayout → List ℕ → List Row
rows_in layout text = rows_of layout (slice_split is_newline text)
