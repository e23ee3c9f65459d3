-- Symbols. From the manual's section on symbols; that other characters aren't allowed in them, and that registers are none, is our profile's.
use Rattle.std.specs.Prelude.{ℕ, ◌-◌, Bool, false, ◌&&◌, ◌||◌, not, ◌==◌, nat_le, nat_lt, nat_eq, List, [], ◌∷◌, ◌++◌, length, slice_index, replicate, codes}
use Rattle.std.specs.List.{list_all}
use Rattle.cps_text.specs.Text.{among, is_digit, is_letter}

abbrev pub begins_symbol : ℕ → Bool
begins_symbol character = is_letter character || among (codes ".") character

abbrev pub continues_symbol : ℕ → Bool
continues_symbol character = is_letter character || (is_digit 10 character || among (codes ".=") character)

-- A, B or X and a digit from 0 to 7
abbrev pub is_register : List ℕ → Bool
is_register [] = false
is_register (c ∷ []) = false
is_register (c ∷ d ∷ []) = among (codes "ABX") c && is_digit 8 d
is_register (c ∷ d ∷ e ∷ text) = false

-- the most characters of a symbol
abbrev pub longest_symbol : ℕ
longest_symbol = 8

-- a symbol in capitals has 1 to 8 characters, first a letter or a point, then letters, digits, points and equal signs; a register is none
abbrev pub is_symbol : List ℕ → Bool
is_symbol text =
    (nat_lt 0 (length text) && nat_le (length text) longest_symbol)
    && (begins_symbol (slice_index text 0) && (list_all continues_symbol text && not (is_register text)))

-- how many digits a generated name has
abbrev pub generated_digits : ℕ
generated_digits = 7

-- a generated name, which LOCAL gives a local name of a macro's call: `~` and seven decimal digits, not all of them 0; no line of a source has `~`
abbrev pub is_generated : List ℕ → Bool
is_generated [] = false
is_generated (mark ∷ digits) =
    among (codes "~") mark
    && (nat_eq (length digits) generated_digits && (list_all (is_digit 10) digits && not (list_all (among (codes "0")) digits)))

-- a symbol that a source writes, or a generated name
abbrev pub is_name : List ℕ → Bool
is_name text = is_symbol text || is_generated text

-- the characters and zeros behind them, as many as the longest symbol has
abbrev pub padded : List ℕ → List ℕ
padded text = text ++ replicate (longest_symbol - length text) 0

abbrev pub is_padding : ℕ → Bool
is_padding byte = byte == 0
