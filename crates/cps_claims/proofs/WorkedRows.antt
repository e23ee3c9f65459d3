-- Worked rows. What each gives was worked out by hand.
use Prim.Native.Char.{code}
use Rattle.std.proofs.Common.{◌≡◌, ℕ, true, false, List, [], ◌∷◌, refl, Option, None, Some, codes}
use Rattle.std.specs.Prelude.{◌==◌, if◌then◌else◌}
use Rattle.cps_claims.specs.Columns.{columns_read}
use Rattle.cps_claims.specs.declared.listed_digit.ListedDigit.{ListedDigit}
use Rattle.cps_claims.specs.Listed.{own_row, codes_from, listed_at}
use Rattle.cps_claims.specs.ListedPlaces.{listed_places, listed_text}
use Rattle.cps_claims.specs.Shown.{shown_digit, again_digit, first_row as first_row_of, last_row, again_row}
use Rattle.cps_claims.specs.Reading.{unread_from}
use Rattle.cps_claims.specs.Claims.{Claimed, claims_from, Words, differs}
use Rattle.cps_claims.specs.Parts.{Part, parts_of, looks_like_digits, address_in}
use Rattle.cps_claims.specs.declared.layout.OctalLayout.{OctalLayout}
use Rattle.cps_claims.specs.declared.layout.OctalFormat.TheVariants.{Rows, Dump}
use Rattle.cps_claims.specs.declared.layout.WordForm.TheVariants.{Central, Peripheral}
use Rattle.cps_claims.specs.declared.layout.WordOffset.{WordOffset}
use Rattle.cps_claims.specs.declared.layout.WordOffset.TheVariants.{Up, Down}
use Rattle.cps_claims.specs.declared.stand.RowStand.{RowStand}
use Rattle.cps_claims.specs.declared.stand.WordPlace.{WordPlace}
use Rattle.cps_claims.specs.declared.reason.UnreadReason.TheVariants.{DamagedDigits, GroupOf, NoAddress, BehindUnread, NoSuchAddress, NoWholeWords, EndlessRepetition, UnevenRepetition, TooManyRepetitions}
use Rattle.cps_claims.specs.Rows.{Row, row_of, row_among, rows_from, is_repetition, at_first, read, blank, other, unread}

-- ---- parts

colon : address_in (codes "001000:") ≡ Some 512
colon = refl

letters : looks_like_digits (codes "46OOO") ≡ true
letters = refl

operation : looks_like_digits (codes "SX1") ≡ false
operation = refl

parts : parts_of (codes "0\t76110 +") ≡ record { column = 0; text = codes "0" } ∷ record { column = 8; text = codes "76110" } ∷ record { column = 14; text = codes "+" } ∷ []
parts = refl

-- ---- a row

-- what a row is, of these parts, where it stands first
abbrev central : OctalLayout
central = record { format = Rows; form = Central; columns = None; offset = Up 0 }

abbrev first_row : List ℕ → Row
first_row row = (row_of central at_first (parts_of row)).0

abbrev stand : Option WordPlace → Option ℕ → Option ℕ → RowStand
stand place column lost = record { place = place; column = column; lost = lost; repeated = 0 }

abbrev place : ℕ → ℕ → Option WordPlace
place address count = Some (record { address = address; count = count })

abbrev claim : ℕ → ℕ → List ℕ → Row
claim address place digits = read (record { address = address; place = place; digits = digits })

with-address : row_of central at_first (parts_of (codes "   0  76110  SX1")) ≡ (claim 0 0 (codes "76110"), stand (place 0 5) (Some 6) None)
with-address = refl

-- in the layout of COMPASS: behind it, in the same column
continued : row_of central (stand (place 0 5) (Some 6) None) (parts_of (codes "      76330  SX3")) ≡ (claim 0 5 (codes "76330"), stand (place 0 10) (Some 6) None)
continued = refl

-- ten digits are no address, wherever they stand
long : row_of central (stand (place 0 5) (Some 6) None) (parts_of (codes "7120002000 +")) ≡ (claim 0 5 (codes "7120002000"), stand (place 0 15) (Some 6) None)
long = refl

-- they stay in their word
too-long : row_of central (stand (place 0 15) (Some 6) None) (parts_of (codes "7120002000 +")) ≡ (unread NoAddress, stand None (Some 6) (Some 0))
too-long = refl

-- behind a row that wasn't read nothing goes on, up to another address
behind-lost : row_of central (stand None (Some 6) (Some 0)) (parts_of (codes "      76330")) ≡ (unread BehindUnread, stand None (Some 6) (Some 0))
behind-lost = refl

headings-of-a-page : first_row (codes "1975 03 14 PAGE 12") ≡ unread NoAddress
headings-of-a-page = refl

headings-of-columns : first_row (codes " 0 1 2") ≡ unread (GroupOf 1)
headings-of-columns = refl

title : first_row (codes "1 DUMP 75/03") ≡ other
title = refl

lost-digit : row_of central at_first (parts_of (codes "10 7611 71200")) ≡ (unread (GroupOf 4), stand None (Some 3) (Some 8))
lost-digit = refl

-- an address on each row of a word
same-address : row_of central (stand (place 64 10) (Some 4) None) (parts_of (codes "100 6120000002")) ≡ (claim 64 10 (codes "6120000002"), stand (place 64 20) (Some 4) None)
same-address = refl

-- a word that stands once more
once-more : row_of central (stand (place 64 20) (Some 4) None) (parts_of (codes "100 6120000002")) ≡ (claim 64 0 (codes "6120000002"), stand (place 64 10) (Some 4) None)
once-more = refl

letters-in-digits : first_row (codes "0 76110 7l200") ≡ unread DamagedDigits
letters-in-digits = refl

characters-behind : first_row (codes "0 76110 *AB 12*") ≡ claim 0 0 (codes "76110")
characters-behind = refl

nothing : first_row (codes "  \t ") ≡ blank
nothing = refl

-- ---- rows of listings and dumps; a long row is written as its parts

abbrev part : ℕ → List ℕ → Part
part column text = record { column = column; text = text }

-- a word
whole-word : row_of central at_first (part 0 (codes "000000") ∷ part 7 (codes "76110712000100076330") ∷ [])
    ≡ (claim 0 0 (codes "76110712000100076330"), stand (place 0 20) (Some 7) None)
whole-word = refl

-- two words of a dump; behind them stands the second
two-words : row_of central at_first
    (part 0 (codes "000000") ∷ part 8 (codes "76110") ∷ part 14 (codes "71200") ∷ part 20 (codes "01000") ∷ part 26 (codes "76330")
    ∷ part 33 (codes "73412") ∷ part 39 (codes "46000") ∷ part 45 (codes "46000") ∷ part 51 (codes "46000") ∷ [])
    ≡ (claim 0 0 (codes "7611071200010007633073412460004600046000"), stand (place 1 20) (Some 8) None)
two-words = refl

-- an address that stands twice: both rows are read
twice : row_of central (stand (place 0 20) (Some 7) None) (part 0 (codes "000000") ∷ part 7 (codes "76110712000200076330") ∷ [])
    ≡ (claim 0 0 (codes "76110712000200076330"), stand (place 0 20) (Some 7) None)
twice = refl

-- the row of an instruction, in the layout of COMPASS
instruction : row_of central at_first (part 16 (codes "0") ∷ part 19 (codes "76110") ∷ part 48 (codes "SX1") ∷ part 55 (codes "B1") ∷ [])
    ≡ (claim 0 0 (codes "76110"), stand (place 0 5) (Some 19) None)
instruction = refl

-- the next one, whose code has 30 bits
second-instruction : row_of central (stand (place 0 5) (Some 19) None) (part 19 (codes "7120002000") ∷ part 30 (codes "+") ∷ part 48 (codes "SX2") ∷ [])
    ≡ (claim 0 5 (codes "7120002000"), stand (place 0 15) (Some 19) None)
second-instruction = refl

-- a digit is lost from a word
lost-in-word : row_of central at_first (part 0 (codes "000000") ∷ part 7 (codes "76110") ∷ part 13 (codes "7120") ∷ part 18 (codes "01000") ∷ part 24 (codes "76330") ∷ [])
    ≡ (unread (GroupOf 4), stand None (Some 7) (Some 0))
lost-in-word = refl

-- illegible digits are claimed as marks
illegible : row_of central at_first (part 0 (codes "000000") ∷ part 7 (codes "76110") ∷ part 13 (codes "71200") ∷ part 19 (codes "0?0._") ∷ part 25 (codes "76330") ∷ [])
    ≡ (claim 0 0 (codes "76110712000?0._76330"), stand (place 0 20) (Some 7) None)
illegible = refl

-- groups of other lengths that fill a word, as of 42 and 18 bits
fields : row_of central at_first (part 0 (codes "10") ∷ part 3 (codes "04000001034600") ∷ part 18 (codes "046000") ∷ [])
    ≡ (claim 8 0 (codes "04000001034600046000"), stand (place 8 20) (Some 3) None)
fields = refl

-- a row of this program's own listing
own-listing : row_of central at_first (part 9 (codes "000000") ∷ part 16 (codes "1") ∷ part 42 (codes "1") ∷ part 54 (codes "VFD") ∷ [])
    ≡ (unread (GroupOf 1), stand None (Some 16) (Some 0))
own-listing = refl

-- a letter among the digits, and the row behind it
letter : row_of central at_first (part 16 (codes "0") ∷ part 19 (codes "7611O") ∷ part 48 (codes "SX1") ∷ [])
    ≡ (unread DamagedDigits, stand None (Some 19) (Some 0))
letter = refl

behind-letter : row_of central (stand None (Some 19) (Some 0)) (part 19 (codes "7120001000") ∷ part 30 (codes "+") ∷ [])
    ≡ (unread BehindUnread, stand None (Some 19) (Some 0))
behind-letter = refl

-- another address is read again; so is a whole word at the same one
other-address : row_of central (stand None (Some 19) (Some 0)) (part 16 (codes "1") ∷ part 19 (codes "73412") ∷ [])
    ≡ (claim 1 0 (codes "73412"), stand (place 1 5) (Some 19) None)
other-address = refl

same-parcel : row_of central (stand None (Some 19) (Some 0)) (part 16 (codes "0") ∷ part 19 (codes "73412") ∷ [])
    ≡ (unread BehindUnread, stand None (Some 19) (Some 0))
same-parcel = refl

same-word : row_of central (stand None (Some 19) (Some 0)) (part 0 (codes "000000") ∷ part 7 (codes "76110712000100076330") ∷ [])
    ≡ (claim 0 0 (codes "76110712000100076330"), stand (place 0 20) (Some 7) None)
same-word = refl

-- rows without an address stay in their word
behind-word : row_of central (stand (place 0 20) (Some 7) None) (part 7 (codes "73412") ∷ part 13 (codes "46000") ∷ part 19 (codes "46000") ∷ part 25 (codes "46000") ∷ [])
    ≡ (unread NoAddress, stand None (Some 7) (Some 0))
behind-word = refl

-- characters behind the words; a part that may be a group which was misread
characters : row_of central at_first (part 0 (codes "000002") ∷ part 8 (codes "73510460004600046000") ∷ part 34 (codes "#E") ∷ part 37 (codes "12") ∷ [])
    ≡ (claim 2 0 (codes "73510460004600046000"), stand (place 2 20) (Some 8) None)
characters = refl

misread : row_of central at_first (part 0 (codes "000001") ∷ part 8 (codes "73412460004600046000") ∷ part 34 (codes "46OOO") ∷ [])
    ≡ (unread DamagedDigits, stand None (Some 8) (Some 1))
misread = refl

first-misread : row_of central at_first (part 0 (codes "000002") ∷ part 7 (codes "735l0") ∷ part 13 (codes "46000") ∷ [])
    ≡ (unread DamagedDigits, stand None (Some 7) (Some 2))
first-misread = refl

-- an address with a comment, and a statement of a listing
storage : first_row (codes "100 BSS 5") ≡ other
storage = refl

comment : first_row (codes "* DUMP") ≡ other
comment = refl

-- ---- a peripheral processor

abbrev peripheral : OctalLayout
peripheral = record { format = Rows; form = Peripheral; columns = None; offset = Up 0 }

words-of-four : row_of peripheral at_first (parts_of (codes "0100 1400 3411")) ≡ (claim 64 0 (codes "14003411"), stand (place 65 4) (Some 5) None)
words-of-four = refl

headings-of-words : row_of peripheral at_first (parts_of (codes "   0 1 2 3 4")) ≡ (unread (GroupOf 1), stand None (Some 5) (Some 0))
headings-of-words = refl

-- ---- a dump

abbrev central_dump : OctalLayout
central_dump = record { format = Dump; form = Central; columns = None; offset = Up 0 }

abbrev dump : WordOffset → OctalLayout
dump offset = record { format = Dump; form = Peripheral; columns = None; offset = offset }

-- where a row stands behind one that is read, and so many words that stand again
abbrev stand_again : Option WordPlace → Option ℕ → ℕ → RowStand
stand_again place column repeated = record { place = place; column = column; lost = None; repeated = repeated }

-- three parcels are no word
three-parcels : row_of central_dump at_first (part 0 (codes "0") ∷ part 2 (codes "76110") ∷ part 8 (codes "71200") ∷ part 14 (codes "01000") ∷ [])
    ≡ (unread NoWholeWords, stand None (Some 2) (Some 0))
three-parcels = refl

-- nineteen digits are no parcels
nineteen : row_of central_dump at_first (part 0 (codes "0") ∷ part 2 (codes "7611071200010007633") ∷ []) ≡ (unread (GroupOf 19), stand None (Some 2) (Some 0))
nineteen = refl

-- the next word
next-word : row_of central_dump (stand (place 0 20) (Some 7) None) (part 7 (codes "73412") ∷ part 13 (codes "46000") ∷ part 19 (codes "46000") ∷ part 25 (codes "46000") ∷ [])
    ≡ (claim 1 0 (codes "73412460004600046000"), stand (place 1 20) (Some 7) None)
next-word = refl

-- and the next two
next-words : row_of (dump (Up 0)) (stand (place 64 4) (Some 5) None) (parts_of (codes "     0003 0004")) ≡ (claim 65 0 (codes "00030004"), stand (place 66 4) (Some 5) None)
next-words = refl

asterisk : is_repetition (parts_of (codes " *")) ≡ true
asterisk = refl

asterisk-and-more : is_repetition (parts_of (codes "* 4")) ≡ false
asterisk-and-more = refl

small-letters : is_repetition (parts_of (codes "Duplicate lines")) ≡ true
small-letters = refl

shorter-word : is_repetition (parts_of (codes "REPEA")) ≡ false
shorter-word = refl

-- two words stand again, twice
twice-more : row_among (dump (Up 0)) (stand (place 65 4) (Some 5) None) (codes "00010002") (part 0 (codes "*") ∷ []) (Some 70)
    ≡ (claim 66 0 (codes "0001000200010002"), stand_again (place 69 4) (Some 5) 4)
twice-more = refl

-- where the text's addresses are moved
moved-repetition : row_among (dump (Down 64)) (stand (place 65 4) (Some 5) None) (codes "0001") (part 0 (codes "SAME") ∷ []) (Some 67)
    ≡ (claim 2 0 (codes "0001"), stand_again (place 66 4) (Some 5) 1)
moved-repetition = refl

-- two words don't fill three; none at all are none
uneven : row_among (dump (Up 0)) (stand (place 65 4) (Some 5) None) (codes "00010002") (part 0 (codes "*") ∷ []) (Some 69)
    ≡ (unread UnevenRepetition, stand None (Some 5) (Some 65))
uneven = refl

no-words-again : row_among (dump (Up 0)) (stand (place 65 4) (Some 5) None) (codes "00010002") (part 0 (codes "*") ∷ []) (Some 66)
    ≡ (unread UnevenRepetition, stand None (Some 5) (Some 65))
no-words-again = refl

endless : row_among (dump (Up 0)) (stand (place 65 4) (Some 5) None) (codes "0001") (part 0 (codes "*") ∷ []) None
    ≡ (unread EndlessRepetition, stand None (Some 5) (Some 65))
endless = refl

nothing-above : row_among (dump (Up 0)) at_first [] (part 0 (codes "*") ∷ []) (Some 1) ≡ (unread EndlessRepetition, at_first)
nothing-above = refl

-- 262,143 words stand again already
too-many : row_among (dump (Up 0)) (stand_again (place 65 4) (Some 5) 262143) (codes "0001") (part 0 (codes "*") ∷ []) (Some 68)
    ≡ (unread TooManyRepetitions, record { place = None; column = Some 5; lost = Some 65; repeated = 262143 })
too-many = refl

last-one : row_among (dump (Up 0)) (stand_again (place 65 4) (Some 5) 262143) (codes "0001") (part 0 (codes "*") ∷ []) (Some 67)
    ≡ (claim 66 0 (codes "0001"), stand_again (place 66 4) (Some 5) 262144)
last-one = refl

-- elsewhere an asterisk begins a comment
no-dump : row_among peripheral (stand (place 65 4) (Some 5) None) (codes "0001") (part 0 (codes "*") ∷ []) (Some 67) ≡ (other, stand (place 65 4) (Some 5) None)
no-dump = refl

-- the end is the address of the row right behind it
right-behind : rows_from (dump (Up 0)) (stand (place 65 4) (Some 5) None) (codes "0001") (codes "*" ∷ [] ∷ codes "103" ∷ [])
    ≡ unread EndlessRepetition ∷ blank ∷ other ∷ []
right-behind = refl

-- what stood again stands again
again-and-again : rows_from (dump (Up 0)) (stand (place 65 4) (Some 5) None) (codes "0001") (codes "*" ∷ codes "104 A" ∷ codes "*" ∷ codes "106" ∷ [])
    ≡ claim 66 0 (codes "00010001") ∷ other ∷ claim 68 0 (codes "00010001") ∷ other ∷ []
again-and-again = refl

-- ---- an offset

abbrev moved_by : WordOffset → OctalLayout
moved_by offset = record { format = Rows; form = Central; columns = None; offset = offset }

-- where the row stands is the text's address
down : row_of (moved_by (Down 2048)) at_first (parts_of (codes "004001: 73412")) ≡ (claim 1 0 (codes "73412"), stand (place 2049 5) (Some 8) None)
down = refl

too-low : row_of (moved_by (Down 2048)) at_first (parts_of (codes "003777: 73412")) ≡ (unread NoSuchAddress, stand None (Some 8) (Some 2047))
too-low = refl

up : row_of (moved_by (Up 1)) at_first (parts_of (codes "777776 73412")) ≡ (claim 262143 0 (codes "73412"), stand (place 262142 5) (Some 7) None)
up = refl

too-high : row_of (moved_by (Up 1)) at_first (parts_of (codes "777777 73412")) ≡ (unread NoSuchAddress, stand None (Some 7) (Some 262143))
too-high = refl

-- ---- columns

cut-columns : columns_read (Some (record { first = 3; last = 9 })) (codes "AE 0 7611 3") ≡ codes " 0 7611"
cut-columns = refl

-- ---- claims

abbrev said : ℕ → ℕ → ℕ → ℕ → Claimed
said row address place digit = record { row = row; address = address; place = place; digit = digit }

-- digits reach into the next word
reaching : claims_from 4 7 (blank ∷ claim 64 3 (codes "01") ∷ []) ≡ said 8 64 3 48 ∷ said 8 65 0 49 ∷ []
reaching = refl

-- a deck of one word, with one digit of it
abbrev deck : List ℕ → Words
deck word address = if address == 0 then Some word else None

agreeing : differs (deck (codes "7611")) (said 1 0 1 (code "6") ∷ said 2 0 1 (code "6") ∷ said 3 0 2 (code "?") ∷ []) 0 ≡ false
agreeing = refl

-- two values of one digit never both agree
contrary : differs (deck (codes "7611")) (said 1 0 1 (code "6") ∷ said 2 0 1 (code "7") ∷ []) 0 ≡ true
contrary = refl

no-word : differs (deck (codes "7611")) (said 1 5 0 (code "0") ∷ []) 5 ≡ true
no-word = refl

no-digit : differs (deck (codes "7611")) (said 1 0 4 (code "0") ∷ []) 0 ≡ true
no-digit = refl

nothing-said : differs (deck (codes "7611")) [] 0 ≡ false
nothing-said = refl

-- ---- the rows of this program's own listing

abbrev own : List ℕ → Row
own row = own_row (Up 0) row

-- the address in columns 10 to 15, the digits in columns 17 to 36
own-code : own (codes "         000100 5112000001                +           SA1    B2+1") ≡ claim 64 0 (codes "5112000001")
own-code = refl

-- a second word stands behind a blank
own-words : own (codes "U        000100 1234 5670") ≡ claim 64 0 (codes "12345670")
own-words = refl

own-address-alone : own (codes "         000100                           2           ORG    100B") ≡ other
own-address-alone = refl

own-code-alone : own (codes "                5112000001") ≡ other
own-code-alone = refl

own-blank : own (codes "    ") ≡ blank
own-blank = refl

own-letter : own (codes "         000100 51120000O1") ≡ unread DamagedDigits
own-letter = refl

-- 20 digits fill the columns, and one more stands in column 37
own-too-long : own (codes "         000100 123456701234567012340") ≡ unread DamagedDigits
own-too-long = refl

own-before : own (codes "         00010015112000001") ≡ unread DamagedDigits
own-before = refl

own-no-address : own (codes "         00x100 5112000001") ≡ unread NoAddress
own-no-address = refl

own-moved : own_row (Down 64) (codes "         000100 1234") ≡ claim 0 0 (codes "1234")
own-moved = refl

own-too-low : own_row (Down 65) (codes "         000100 1234") ≡ unread NoSuchAddress
own-too-low = refl

-- the codes at an address stand one behind another, each with the number of its row
abbrev listed : ℕ → ℕ → ListedDigit
listed digit by = record { digit = digit; by = by }

own-digits : listed_at (codes_from 1 (claim 64 0 (codes "12") ∷ other ∷ claim 65 0 (codes "7") ∷ claim 64 0 (codes "3?") ∷ [])) 64
    ≡ listed (code "1") 1 ∷ listed (code "2") 1 ∷ listed (code "3") 4 ∷ listed (code "?") 4 ∷ []
own-digits = refl

-- ---- where two listings differ: in a digit that can be read, and isn't the source's

abbrev deck-listed : List ListedDigit
deck-listed = listed (code "1") 1 ∷ listed (code "4") 1 ∷ listed (code "5") 2 ∷ []

one-place : listed_places false deck-listed (listed (code "1") 7 ∷ listed (code "?") 7 ∷ listed (code "6") 9 ∷ []) ≡ 2 ∷ []
one-place = refl

-- a digit more is one that the source doesn't list
one-more : listed_places false deck-listed (listed (code "1") 7 ∷ listed (code "4") 7 ∷ listed (code "5") 9 ∷ listed (code "0") 9 ∷ []) ≡ 3 ∷ []
one-more = refl

-- digits lack where all codes must be given
none-lacks : listed_places false deck-listed (listed (code "1") 7 ∷ []) ≡ []
none-lacks = refl

two-lack : listed_places true deck-listed (listed (code "1") 7 ∷ []) ≡ 1 ∷ 2 ∷ []
two-lack = refl

shown-listed : listed_text (listed (code "1") 7 ∷ listed (code ".") 7 ∷ []) ≡ codes "1?"
shown-listed = refl

-- ---- what is shown: at place 0 the same digit twice and then another, at place 1 a mark and then a digit, at place 2 a mark

abbrev claims : List Claimed
claims = said 2 0 0 (code "7") ∷ said 2 0 1 (code ".") ∷ said 3 0 0 (code "7") ∷ said 4 0 1 (code "5") ∷ said 5 0 2 (code "_") ∷ said 6 0 0 (code "3") ∷ said 7 0 0 (code "1") ∷ []

first-shown : shown_digit claims 0 0 ≡ code "7"
first-shown = refl

known-shown : shown_digit claims 0 1 ≡ code "5"
known-shown = refl

mark-shown : shown_digit claims 0 2 ≡ code "?"
mark-shown = refl

nothing-shown : shown_digit claims 0 3 ≡ code " "
nothing-shown = refl

denied : again_digit claims 0 0 ≡ code "3"
denied = refl

not-denied : again_digit claims 0 1 ≡ code " "
not-denied = refl

first-row : first_row_of claims 0 ≡ 2
first-row = refl

last-row : last_row claims 0 ≡ 5
last-row = refl

again-row : again_row claims 0 ≡ 6
again-row = refl

-- ---- the rows of a text, one after another

unread-listed : unread_from 1 (other ∷ unread (GroupOf 4) ∷ claim 1 0 (codes "73412") ∷ unread DamagedDigits ∷ blank ∷ [])
    ≡ record { number = 2; reason = GroupOf 4 } ∷ record { number = 4; reason = DamagedDigits } ∷ []
unread-listed = refl
