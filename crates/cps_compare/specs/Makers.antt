-- The line that made each octal digit of a word. Bits of a literal stand over those of all lines, later lines over earlier ones. Our own.
use Rattle.std.specs.Prelude.{ℕ, ◌+◌, ◌*◌, Bool, ◌&&◌, nat_lt, List, [], ◌∷◌, ◌++◌, map, reverse, find, if◌then◌else◌}
use Rattle.std.specs.Option.{option_map_or}
use Rattle.cps_code.specs.Image.{Piece, covers_word}
use Rattle.cps_final.specs.Outcome.{Outcome}
use Rattle.cps_list.specs.Assembly.{Assembly}
use Rattle.cps_list.specs.Binary.{pool_pieces}
use Rattle.cps_compare.specs.declared.maker.Maker.{Maker}
use Rattle.cps_compare.specs.declared.maker.Maker.TheVariants.{Nobody, Line, Literal}

-- bits, and what made them
pub record Signed : Type 0 where
  pub maker : Maker
  pub piece : Piece

abbrev pub signed_by : Maker → Piece → Signed
signed_by maker piece = record { maker = maker; piece = piece }

-- the bits of lines that have numbers from one on
abbrev pub signed_from : ℕ → List Outcome → List Signed
signed_from number [] = []
signed_from number (outcome ∷ outcomes) = map (signed_by (Line number)) outcome.pieces ++ signed_from (number + 1) outcomes

-- what the lines make, and then the pool
abbrev pub signed_of : Assembly → List Signed
signed_of assembly = signed_from 1 assembly.outcomes ++ map (signed_by Literal) (pool_pieces assembly.finals)

-- whether bits meet an octal digit of a word, of which the first is 0
abbrev pub meets : ℕ → ℕ → Piece → Bool
meets address digit piece =
    covers_word address piece && (nat_lt piece.first (3 * digit + 3) && nat_lt (3 * digit) (piece.first + piece.width))

-- the maker of a digit is that of the last bits that meet it; a word has 20 digits
abbrev pub maker_of : List Signed → ℕ → ℕ → Maker
maker_of all address digit =
    if nat_lt digit 20
    then option_map_or (λ signed. signed.maker) (find (λ signed. meets address digit signed.piece) (reverse all)) Nobody
    else Nobody
