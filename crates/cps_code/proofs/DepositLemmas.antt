-- Putting a piece over words, one after another.
use Rattle.std.proofs.Common.{◌≡◌, ℕ, ◌+◌, ◌-◌, ◌<◌, Bool, cond, ◌&&◌, ◌||◌, ltb, leb, List, Option, is_some}
use Rattle.cps_code.specs.Image.{Piece, word_at, bit_at_place}
use Rattle.cps_code.specs.Bits.{bit_from_left}

abbrev is_reached : Piece → ℕ → ℕ → Bool
is_reached piece end address = leb piece.address address && ltb address end

abbrev is_inside : Piece → ℕ → Bool
is_inside piece at = leb piece.first at && ltb at (piece.first + piece.width)

-- the piece is put over the words below an end
pub record DepositsUpTo (old : List (Option ℕ)) (piece : Piece) (end : ℕ) (new : List (Option ℕ)) : Type 0 where
  pub stand : (address : ℕ) → is_some (word_at new address) ≡ (is_some (word_at old address) || is_reached piece end address)
  pub bits : (address at : ℕ) → at < 60 → bit_at_place new address at
      ≡ cond (is_reached piece end address && is_inside piece at) (bit_from_left piece.width piece.number (at - piece.first)) (bit_at_place old address at)
