-- What is shown at a position of a text: rows of the name there, and of the line. What is shown of a name is our own.
use Rattle.std.specs.Prelude.{◌≡◌, ℕ, ◌-◌, ◌==◌, ◌⊎◌, ◌&&◌, nat_eq, nat_le, Bool, false, MatchBool, List, [], ◌∷◌, find, Option, None, Some, option_map, if◌then◌else◌}
use Rattle.serde_json.specs.Data.{Data}
use Rattle.cps_check.specs.Manual.{TellsForms, is_told, is_told_by_sentences}
use Rattle.cps_edit.specs.Assembly.{assembly_of}
use Rattle.cps_mention.specs.declared.caret.Caret.{Caret}
use Rattle.cps_mention.specs.declared.meaning.Meaning.{Meaning}
use Rattle.cps_mention.specs.declared.meaning.Meaning.TheVariants.{Symbol, Macro, Block, Program, Parameter, Local}
use Rattle.cps_mention.specs.declared.mention.Mention.{Mention}
use Rattle.cps_mention.specs.declared.spot.Spot.{Spot}
use Rattle.cps_mention.specs.Agreement.{AreMentions}
use Rattle.cps_mention.specs.Spots.{AreSpots, is_definition, stretch_at}
use Rattle.cps_rpc.specs.declared.encoding.Encoding.{Encoding}
use Rattle.cps_rpc.specs.declared.markup.Markup.{Markup}
use Rattle.cps_rpc.specs.declared.position.Position.{Position}
use Rattle.cps_rpc.specs.Positions.{place_in}
use Rattle.cps_server.specs.Document.{source_of_text}
use Rattle.cps_server.specs.declared.field.Field.{Field}
use Rattle.cps_server.specs.declared.field.Field.TheVariants.{Location, Operand, Operation, Remark}
use Rattle.cps_server.specs.Fields.{field_at}
use Rattle.cps_server.specs.Locations.{caret_at, named_at, said_of, stretch_range}
use Rattle.cps_server.specs.Results.{TellsShown, hover}
use Rattle.cps_server.specs.Rows.{ShowsBehind, shown_rows}
use Rattle.cps_server.specs.Symbols.{line_of, symbol_row}
use Rattle.cps_server.specs.Words.{word_around}

-- the rows of a line, unless that is this line, both from 0
abbrev pub rows_elsewhere : List ℕ → ℕ → ℕ → List ℕ
rows_elsewhere text number defining = if nat_eq defining number then [] else shown_rows text defining

-- those of the line where a name is defined
abbrev pub defining_rows : List ℕ → ℕ → Option Spot → List ℕ
defining_rows text number None = []
defining_rows text number (Some spot) = rows_elsewhere text number (spot.stretch.line - 1)

-- the first spot that defines
abbrev pub first_definition : List Spot → Option Spot
first_definition spots = find (λ spot. is_definition spot.kind) spots

-- of a symbol its row of the cross-reference, of another name the rows of the line where it is defined first
abbrev pub rows_meant : List ℕ → ℕ → Meaning → List Spot → List ℕ
rows_meant text number (Symbol name) spots = symbol_row text name
rows_meant text number (Macro name) spots = defining_rows text number (first_definition spots)
rows_meant text number (Block name) spots = defining_rows text number (first_definition spots)
rows_meant text number (Program name) spots = defining_rows text number (first_definition spots)
rows_meant text number (Parameter line name) spots = defining_rows text number (first_definition spots)
rows_meant text number (Local line name) spots = defining_rows text number (first_definition spots)

-- a letter alone is that of a flag, and a word of digits a code
abbrev pub may_be_operation : List ℕ → Bool
may_be_operation [] = false
may_be_operation (sign ∷ []) = sign == 61
may_be_operation (first ∷ second ∷ word) = nat_le 65 first

-- what is told of an operation as of a word: of an instruction, the rows of the tables
abbrev pub IsManual : List ℕ → List ℕ → Type 0
IsManual word rows =
    MatchBool (may_be_operation word && is_told word) (is_told_by_sentences word ≡ false → TellsForms word rows) (rows ≡ [])

-- only where it stands in the field of operations
abbrev pub IsManualIn : Field → List ℕ → List ℕ → Type 0
IsManualIn Location word rows = rows ≡ []
IsManualIn Operation word rows = IsManual word rows
IsManualIn Operand word rows = rows ≡ []
IsManualIn Remark word rows = rows ≡ []

-- the word around a position
abbrev pub word_under : Encoding → List ℕ → Position → List ℕ
word_under encoding text position = word_around (line_of text position.line) (place_in encoding (line_of text position.line) position.character)

-- what is shown first: the rows of the mention at a position, or else what is told of the operation there
abbrev pub IsFront : Encoding → List ℕ → Position → Option Mention → List Spot → List ℕ → Type 0
IsFront encoding text position None spots front = IsManualIn (field_at encoding text position) (word_under encoding text position) front
IsFront encoding text position (Some mention) spots front = front ≡ rows_meant text position.line mention.meaning spots

-- and where it stands around a caret
abbrev pub range_of_mention : Encoding → List ℕ → Caret → Option Mention → Option Data
range_of_mention encoding text caret None = None
range_of_mention encoding text caret (Some mention) = option_map (stretch_range encoding text) (stretch_at caret mention.written.items)

-- what is shown by mentions that say all that the text's cross-reference has
pub record ShowsNamed (encoding : Encoding) (markup : Markup) (text : List ℕ) (position : Position) (json : Data) : Type 0 where
  pub mentions : List Mention
  pub say : AreMentions (assembly_of (source_of_text text)) mentions
  pub spots : List Spot
  pub stand : AreSpots (said_of mentions (named_at encoding text position mentions)) spots
  pub shown : Option (List ℕ)
  pub front : List ℕ
  pub in_front : IsFront encoding text position (named_at encoding text position mentions) spots front
  pub shows : ShowsBehind text position.line front shown
  pub is : json ≡ hover markup shown (range_of_mention encoding text (caret_at encoding text position) (named_at encoding text position mentions))

-- or else by the word there
abbrev pub TellsHover : Encoding → Markup → List ℕ → Position → Data → Type 0
TellsHover encoding markup text position json = ShowsNamed encoding markup text position json ⊎ TellsShown encoding markup text position json
