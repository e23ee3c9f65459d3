-- In which field of its line a word stands. The fields are those of a card; that a word which isn't written yet stands where a letter would is our own.
use Rattle.std.specs.Prelude.{ℕ, nat_lt, List, ◌++◌, length, take, codes, if◌then◌else◌}
use Rattle.cps_text.specs.Card.{LineFields, StatementFields, CommentLine, ContinuedLine, StatementLine, fields_of, last_column}
use Rattle.cps_input.specs.Card.{card_of}
use Rattle.cps_rpc.specs.declared.encoding.Encoding.{Encoding}
use Rattle.cps_rpc.specs.declared.position.Position.{Position}
use Rattle.cps_rpc.specs.Positions.{place_in}
use Rattle.cps_server.specs.declared.field.Field.{Field}
use Rattle.cps_server.specs.declared.field.Field.TheVariants.{Location, Operation, Operand, Remark}
use Rattle.cps_server.specs.Symbols.{line_of}
use Rattle.cps_server.specs.Words.{word_start}

-- the last field that has something
abbrev pub last_field : StatementFields → Field
last_field fields =
    if nat_lt 0 (length fields.comment) then Remark
    else (if nat_lt 0 (length fields.variable) then Operand
    else (if nat_lt 0 (length fields.operation) then Operation else Location))

abbrev pub last_of : LineFields → Field
last_of CommentLine = Remark
last_of ContinuedLine = Remark
last_of (StatementLine fields) = last_field fields

-- the field of a letter in a place of a card, from 0, behind what stands in front of it
abbrev pub letter_field : List ℕ → ℕ → Field
letter_field card at = if nat_lt at last_column then last_of (fields_of (take at card ++ codes "A")) else Remark

-- that of the word around a place in a line: of a letter where the word begins
abbrev pub word_field : List ℕ → ℕ → Field
word_field line at = letter_field (card_of line) (word_start line at)

-- that around so many units of a line
abbrev pub field_of : Encoding → List ℕ → Position → Field
field_of encoding line position = word_field line (place_in encoding line position.character)

-- that around a position of a text
abbrev pub field_at : Encoding → List ℕ → Position → Field
field_at encoding text position = field_of encoding (line_of text position.line) position
