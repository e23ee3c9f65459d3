-- Makers put into slots, piece by piece.
use Rattle.std.proofs.Common.{◌≡◌, ℕ, ◌+◌, ◌*◌, ◌<◌, Bool, cond, ◌&&◌, ltb, leb, List, []}
use Rattle.cps_code.specs.Image.{Piece}
use Rattle.cps_compare.specs.declared.maker.Maker.{Maker}
use Rattle.cps_compare.specs.Code.Deck.{slot_at}

abbrev pub is_inside : Piece → ℕ → Bool
is_inside piece digit = ltb piece.first (3 * digit + 3) && ltb (3 * digit) (piece.first + piece.width)

abbrev pub is_reached : Piece → ℕ → ℕ → Bool
is_reached piece end address = leb piece.address address && ltb address end

-- the piece is marked in its words below an end
pub record MarksUpTo (old : List Maker) (maker : Maker) (piece : Piece) (end : ℕ) (new : List Maker) : Type 0 where
  pub digits : (address digit : ℕ) → digit < 20
      → slot_at new (20 * address + digit) ≡ cond (is_reached piece end address && is_inside piece digit) maker (slot_at old (20 * address + digit))
