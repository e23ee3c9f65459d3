-- The binary text: the program's name, and each word in octal after its address. The words are those of all lines, and the literal pool
-- over them, from the manual's section on literals; the layout is our profile's.
use Rattle.std.specs.Prelude.{ℕ, ◌/◌, ◌%◌, ◌^◌, List, [], ◌++◌, codes, flat_map, Option, None, Some}
use Rattle.std.specs.List.{range_with_len}
use Rattle.cps_text.specs.declared.name.Name.{Name}
use Rattle.cps_text.specs.Name.{name_text}
use Rattle.cps_text.specs.Octal.{octal}
use Rattle.cps_expr.specs.declared.machine.Machine.{Machine}
use Rattle.cps_expr.specs.declared.machine.Machine.TheVariants.{Cp, Pp}
use Rattle.cps_expr.specs.Item.{bits_of}
use Rattle.cps_code.specs.Image.{Piece, packed_word}
use Rattle.cps_state.specs.Machines.{limit}
use Rattle.cps_final.specs.Finals.{Finals, machine_of, final_value, literal}
use Rattle.cps_final.specs.Values.{address_of}
use Rattle.cps_final.specs.Pieces.{placed}
use Rattle.cps_final.specs.Outcome.{Outcome}
use Rattle.cps_list.specs.Assembly.{Assembly}

-- ---- words

-- all bits of some lines, in order
abbrev pub pieces_in : List Outcome → List Piece
pieces_in outcomes = flat_map (λ outcome. outcome.pieces) outcomes

-- one word of a machine at an address: the low bits of a number
abbrev pub word_piece : Machine → ℕ → ℕ → Piece
word_piece machine address number =
    record { address = address; first = 0; width = bits_of machine; number = number % 2 ^ bits_of machine; times = 1 }

-- a literal at its final address
abbrev pub literal_piece : Finals → ℕ → List Piece
literal_piece finals word =
    placed (machine_of finals) (address_of (final_value finals (literal word))) (word_piece (machine_of finals) 0 word)

-- the words of the pool
abbrev pub pool_pieces : Finals → List Piece
pool_pieces finals = flat_map (literal_piece finals) finals.pool

-- what the lines make, and then the pool
abbrev pub pieces_of : Assembly → List Piece
pieces_of assembly = pieces_in assembly.outcomes ++ pool_pieces assembly.finals

-- ---- rows

abbrev pub first_row : Option Name → List ℕ
first_row None = codes "IDENT\n"
first_row (Some name) = codes "IDENT " ++ name_text name ++ codes "\n"

-- the row of a word; no row where there is none. A peripheral processor's word is the first 12 of the 60 bits.
abbrev pub word_row : Machine → ℕ → Option ℕ → List ℕ
word_row machine address None = []
word_row Cp address (Some word) = octal 6 address ++ codes " " ++ octal 20 word ++ codes "\n"
word_row Pp address (Some word) = octal 4 address ++ codes " " ++ octal 4 (word / 2 ^ 48) ++ codes "\n"

-- the rows of the words that pieces make, by rising addresses below one
unfoldable pub rows_below : ℕ → Machine → List Piece → List ℕ
rows_below count machine pieces = flat_map (λ address. word_row machine address (packed_word pieces address)) (range_with_len 0 count)

-- ---- the text

abbrev pub binary_text : Assembly → List ℕ
binary_text assembly =
    first_row assembly.finals.program ++ rows_below (limit (machine_of assembly.finals)) (machine_of assembly.finals) (pieces_of assembly)
