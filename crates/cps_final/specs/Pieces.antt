-- Pass two: the bits of a statement, at their final addresses. From the manual's section on the two passes; the machine's limit is our profile's.
use Rattle.std.specs.Prelude.{ℕ, ◌+◌, ◌-◌, ◌*◌, ◌/◌, ◌%◌, ◌^◌, min, max, ◌==◌, nat_lt, List, [], ◌∷◌, ◌++◌, map, flat_map, if◌then◌else◌}
use Rattle.std.specs.List.{range_with_len}
use Rattle.cps_expr.specs.declared.machine.Machine.{Machine}
use Rattle.cps_expr.specs.declared.machine.Machine.TheVariants.{Cp, Pp}
use Rattle.cps_expr.specs.Item.{bits_of}
use Rattle.cps_code.specs.Bits.{word_bits}
use Rattle.cps_code.specs.Image.{Piece}
use Rattle.cps_state.specs.declared.item.Item.{Item}
use Rattle.cps_state.specs.declared.made.Content.{Content}
use Rattle.cps_state.specs.Machines.{limit}
use Rattle.cps_state.specs.Made.{Made, width_of, end_of}
use Rattle.cps_final.specs.Places.{with_places}
use Rattle.cps_final.specs.Values.{Resolved, PlacedStatement, placed_statement, number_of}

-- `width` bits of a number from a place on, which may reach into the next words: those of them in the word that comes `later` words on
abbrev pub piece_in : Machine → ℕ → ℕ → ℕ → ℕ → Piece
piece_in machine at width number later =
    let word = later * bits_of machine in
    let from = max (at % word_bits) word in
    let to = min (at % word_bits + width) (word + bits_of machine) in
    record {
      address = at / word_bits + later;
      first = from - word;
      width = to - from;
      number = number / 2 ^ (at % word_bits + width - to) % 2 ^ (to - from);
      times = 1;
    }

-- how many words they touch
abbrev pub words_touched : Machine → ℕ → ℕ → ℕ
words_touched machine at width = (at % word_bits + width + bits_of machine - 1) / bits_of machine

-- all of them, word by word
abbrev pub pieces_at : Machine → ℕ → ℕ → ℕ → List Piece
pieces_at machine at width number = map (piece_in machine at width number) (range_with_len 0 (words_touched machine at width))

-- a peripheral processor's word that was begun is filled with zeros
abbrev pub last_word : Machine → ℕ → List Piece
last_word Cp at = []
last_word Pp at =
    if at % word_bits == 0 then [] else record { address = at / word_bits; first = at % word_bits; width = bits_of Pp - at % word_bits; number = 0; times = 1 } ∷ []

-- so many words of zeros
abbrev pub zeros_at : Machine → ℕ → ℕ → List Piece
zeros_at machine at count =
    if count == 0 then [] else record { address = at / word_bits; first = 0; width = bits_of machine; number = 0; times = count } ∷ []

-- bits of a block at their final address, as far as they lie below the machine's limit
abbrev pub placed : Machine → ℕ → Piece → List Piece
placed machine base piece =
    if nat_lt (base + piece.address) (limit machine)
    then record piece { address = base + piece.address; times = min piece.times (limit machine - (base + piece.address)) } ∷ []
    else []

-- the bits of a content at its place
abbrev pub content_bits : PlacedStatement → ℕ × Content → List Piece
content_bits statement (at, content) = pieces_at statement.machine at (width_of content) (number_of statement.known statement.here content)

-- the bits of contents from a place on
abbrev pub content_pieces : PlacedStatement → ℕ → List Content → List Piece
content_pieces statement at contents =
    flat_map (content_bits statement) (with_places statement.machine at contents)
    ++ last_word statement.machine (end_of statement.machine at contents)

abbrev pub contents_of : PlacedStatement → Made → List Piece
contents_of statement made = if made.only_flags then [] else content_pieces statement made.start made.contents

-- the filling, the zeros, then the contents
abbrev pub pieces_of : Resolved → Item → List Piece
pieces_of finals item =
    let made = item.made in
    let statement = placed_statement finals item in
    flat_map (placed made.machine statement.base) (made.filling ++ zeros_at made.machine made.start made.zeros ++ contents_of statement made)
