-- The words that pieces make: bit by bit, the last piece that covers a bit counts.
-- The machine's manual gives words of 60 bits, of which a peripheral processor's word is the first 12; that later pieces stand over earlier ones is our profile's.
use Rattle.std.specs.Prelude.{◌≡◌, ℕ, ◌+◌, ◌-◌, ◌<◌, Bool, ◌&&◌, ◌||◌, nat_le, nat_lt, List, reverse, find, Option, None, Some, if◌then◌else◌, is_some, slice_index_or, unwrap_or}
use Rattle.std.specs.List.{list_any}
use Rattle.std.specs.Option.{option_map_or}
use Rattle.cps_code.specs.Bits.{word_bits, bit_from_left, number_of_bits}
use Rattle.cps_code.specs.declared.piece.Piece as code

-- `width` bits of a number, from bit `first` of a word on, the same in `times` words from an address on
pub record Piece : Type 0 where
  pub address : ℕ
  pub first : ℕ
  pub width : ℕ
  pub number : ℕ
  pub times : ℕ

abbrev pub piece_of : code.Piece → Piece
piece_of piece = record { address = piece.address; first = piece.first; width = piece.width; number = piece.number; times = piece.times }

abbrev pub covers_word : ℕ → Piece → Bool
covers_word address piece = nat_le piece.address address && nat_lt address (piece.address + piece.times)

abbrev pub covers_bit : ℕ → ℕ → Piece → Bool
covers_bit address at piece = covers_word address piece && (nat_le piece.first at && nat_lt at (piece.first + piece.width))

-- a bit of a word: that of the last piece that covers it, else 0
abbrev pub packed_bit : List Piece → ℕ → ℕ → ℕ
packed_bit pieces address at =
    option_map_or (λ piece. bit_from_left piece.width piece.number (at - piece.first)) (find (covers_bit address at) (reverse pieces)) 0

-- the word at an address: there is one where some piece covers a bit of it
abbrev pub packed_word : List Piece → ℕ → Option ℕ
packed_word pieces address =
    if list_any (covers_word address) pieces then Some (number_of_bits (packed_bit pieces address) word_bits) else None

-- the words that stand, from address 0 on; None where there is none
abbrev pub word_at : List (Option ℕ) → ℕ → Option ℕ
word_at words address = slice_index_or words address None

-- a bit of a word, 0 where there is none
abbrev pub bit_at_place : List (Option ℕ) → ℕ → ℕ → ℕ
bit_at_place words address at = bit_from_left word_bits (unwrap_or (word_at words address) 0) at

-- putting a piece into the words: it covers its words, its bits are its own, all others stay
pub record Deposits (old : List (Option ℕ)) (piece : Piece) (new : List (Option ℕ)) : Type 0 where
  pub stand : (address : ℕ) → is_some (word_at new address) ≡ (is_some (word_at old address) || covers_word address piece)
  pub bits : (address at : ℕ) → at < word_bits → bit_at_place new address at
      ≡ (if covers_bit address at piece then bit_from_left piece.width piece.number (at - piece.first) else bit_at_place old address at)

-- these words stand, with these bits, after the pieces one after another
pub record ArePacked (pieces : List Piece) (words : List (Option ℕ)) : Type 0 where
  pub stand : (address : ℕ) → is_some (word_at words address) ≡ list_any (covers_word address) pieces
  pub bits : (address at : ℕ) → at < word_bits → bit_at_place words address at ≡ packed_bit pieces address at
