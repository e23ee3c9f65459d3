-- For the loops that put bits over others, not part of what a reader believes: makers in slots, and a deck.
use Rattle.std.specs.Prelude.{◌≡◌, ℕ, ◌+◌, ◌*◌, nat_lt, List, ◌++◌, map, Option, None, slice_index_or, if◌then◌else◌}
use Rattle.cps_code.specs.declared.piece.Piece as code
use Rattle.cps_code.specs.Image.{Piece, ArePacked, piece_of}
use Rattle.cps_compare.specs.declared.deck_words.DeckWords.{DeckWords}
use Rattle.cps_compare.specs.declared.maker.Maker.{Maker}
use Rattle.cps_compare.specs.declared.maker.Maker.TheVariants.{Nobody}
use Rattle.cps_compare.specs.Makers.{Signed, maker_of}

-- the maker in a slot; nobody where there is none
abbrev pub slot_at : List Maker → ℕ → Maker
slot_at slots slot = slice_index_or slots slot Nobody

-- the maker of a digit in its slot, of which each address has 20
abbrev pub maker_at : List Maker → ℕ → ℕ → Maker
maker_at slots address digit = if nat_lt digit 20 then slot_at slots (20 * address + digit) else Nobody

abbrev pub AreMade : List Signed → List Maker → Type 0
AreMade all slots = (address digit : ℕ) → maker_at slots address digit ≡ maker_of all address digit

-- words and makers of these bits
pub record IsDeck (all : List Signed) (words : List (Option ℕ)) (slots : List Maker) : Type 0 where
  pub packed : ArePacked (map (λ signed. signed.piece) all) words
  pub made : AreMade all slots

-- bits are put over those of a deck
abbrev pub PutsOver : List Signed → DeckWords → DeckWords → Type 0
PutsOver signed old new = (all : List Signed) → IsDeck all old.words old.makers → IsDeck (all ++ signed) new.words new.makers

-- pieces are added to others
abbrev pub AddsPieces : List Piece → List code.Piece → List code.Piece → Type 0
AddsPieces pieces old new = map piece_of new ≡ map piece_of old ++ pieces

-- no word stands at any address
abbrev pub HasNoWord : (ℕ → Option ℕ) → Type 0
HasNoWord word = (address : ℕ) → word address ≡ None
