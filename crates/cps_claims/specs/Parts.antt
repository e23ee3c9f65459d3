-- The parts of a row, and what each may be. Our own.
use Prim.Native.Char.{code}
use Rattle.std.specs.Prelude.{ℕ, ◌+◌, ◌-◌, ◌*◌, ◌%◌, Bool, ◌==◌, ◌&&◌, ◌||◌, nat_le, nat_lt, List, [], ◌∷◌, ◌++◌, length, fold, count_by, codes, Option, None, Some, if◌then◌else◌, take, slice_index}
use Rattle.std.specs.List.{list_all, list_any}

-- a blank, a tab, a carriage return, a form feed, a vertical tab
abbrev pub is_blank : ℕ → Bool
is_blank byte = list_any (λ blank. byte == blank) (codes " \t\r" ++ 12 ∷ 11 ∷ [])

abbrev pub is_octal : ℕ → Bool
is_octal byte = nat_le (code "0") byte && nat_le byte (code "7")

-- a digit that nobody can read
abbrev pub is_mark : ℕ → Bool
is_mark byte = list_any (λ mark. byte == mark) (codes "?._")

abbrev pub is_digit : ℕ → Bool
is_digit byte = is_octal byte || is_mark byte

-- 8 and 9 too
abbrev pub is_figure : ℕ → Bool
is_figure byte = nat_le (code "0") byte && nat_le byte (code "9") || is_mark byte

-- and letters that are taken for figures
abbrev pub is_taken : ℕ → Bool
is_taken byte = is_figure byte || list_any (λ letter. byte == letter) (codes "OoIl")

-- more than half of it are figures; or it has one, and else nothing but these and letters that are taken for them
abbrev pub looks_like_digits : List ℕ → Bool
looks_like_digits text =
    let figures = count_by is_figure text in
    nat_lt (length text) (2 * figures) || (nat_lt 0 figures && list_all is_taken text)

abbrev pub are_digits : List ℕ → Bool
are_digits text = list_all is_digit text

-- ---- the parts

-- what stands between blanks, and the column in which it begins; the first column has number 0 here
pub record Part : Type 0 where
  pub column : ℕ
  pub text : List ℕ

-- a tab reaches to the next column that is a multiple of 8
abbrev pub column_after : ℕ → ℕ → ℕ
column_after column byte = if byte == 9 then column + 8 - column % 8 else column + 1

-- the part that ends before a column, if it has a text
abbrev pub ended : ℕ → List ℕ → List Part
ended column [] = []
ended column (byte ∷ text) = record { column = column - length (byte ∷ text); text = byte ∷ text } ∷ []

-- the parts of what is left of a row, from a column on, behind the text of one that was begun
abbrev pub parts_from : ℕ → List ℕ → List ℕ → List Part
parts_from column text [] = ended column text
parts_from column text (byte ∷ row) =
    if is_blank byte then ended column text ++ parts_from (column_after column byte) [] row
    else parts_from (column + 1) (text ++ byte ∷ []) row

abbrev pub parts_of : List ℕ → List Part
parts_of row = parts_from 0 [] row

-- ---- an address

abbrev pub octal_number : List ℕ → ℕ
octal_number text = fold (λ number digit. 8 * number + (digit - code "0")) 0 text

-- a colon or a B
abbrev pub is_end : ℕ → Bool
is_end byte = list_any (λ end. byte == end) (codes ":Bb")

-- a text without its last byte, if that is a colon or a B
abbrev pub without_end : List ℕ → List ℕ
without_end [] = []
without_end (byte ∷ text) =
    let before = length text in
    if is_end (slice_index (byte ∷ text) before) then take before (byte ∷ text) else byte ∷ text

-- 1 to 6 octal digits are the number of an address
abbrev pub number_in : List ℕ → Option ℕ
number_in digits =
    if nat_lt 0 (length digits) && (nat_le (length digits) 6 && list_all is_octal digits) then Some (octal_number digits) else None

-- an address, and perhaps a colon or a B
abbrev pub address_in : List ℕ → Option ℕ
address_in text = number_in (without_end text)
