-- Lines that open, part and close others, as they are told at the names of their operations. From the Language Server Protocol 3.17. Which line opened which is
-- tested, not proved.
use Rattle.std.specs.Prelude.{◌≡◌, ℕ, ◌<◌, Bool, true, false, List, [], ◌∷◌, All, length, Option, None, Some}
use Rattle.serde_json.specs.Data.{Data, array}
use Rattle.serde_json.specs.View.{items_of}
use Rattle.cps_expr.specs.declared.operation.Operation.{Operation as Statement}
use Rattle.cps_expr.specs.declared.operation.Operation.TheVariants.{If, Compare, Else, Endif, Dup, Endd, Macro, Endm, End}
use Rattle.cps_expr.specs.Operation.{operation_named}
use Rattle.cps_rpc.specs.declared.encoding.Encoding.{Encoding}
use Rattle.cps_rpc.specs.declared.position.Position.{Position}
use Rattle.cps_rpc.specs.Positions.{place_in}
use Rattle.cps_server.specs.declared.field.Field.{Field}
use Rattle.cps_server.specs.declared.field.Field.TheVariants.{Location, Operation, Operand, Remark}
use Rattle.cps_server.specs.Document.{source_of_text}
use Rattle.cps_server.specs.Fields.{field_at}
use Rattle.cps_server.specs.Ranges.{IsInLine, location}
use Rattle.cps_server.specs.Results.{TellsEach, highlight}
use Rattle.cps_server.specs.Symbols.{line_of}
use Rattle.cps_server.specs.Words.{word_around}

-- an operation, if it stands in the field of operations
abbrev pub operation_in : Field → Option Statement → Option Statement
operation_in Location named = None
operation_in Operation named = named
operation_in Operand named = None
operation_in Remark named = None

-- the statement that the word around so many units of a line names
abbrev pub word_named : Encoding → List ℕ → ℕ → Option Statement
word_named encoding line units = operation_named (word_around line (place_in encoding line units))

-- the statement whose name stands at a position as an operation
abbrev pub operation_at : Encoding → List ℕ → Position → Option Statement
operation_at encoding text position =
    operation_in (field_at encoding text position) (word_named encoding (line_of text position.line) position.character)

-- whether it parts or closes lines
abbrev pub closes : Option Statement → Bool
closes (Some Else) = true
closes (Some Endif) = true
closes (Some Endd) = true
closes (Some Endm) = true
closes (Some End) = true
closes other = false

-- whether it opens, parts or closes some
abbrev pub has_partners : Option Statement → Bool
has_partners (Some If) = true
has_partners (Some (Compare relation)) = true
has_partners (Some Dup) = true
has_partners (Some Macro) = true
has_partners other = closes other

abbrev pub alone : Data → Data
alone json = array (items_of (json ∷ []))

-- another line, where one stands at a position that parts or closes lines
pub record TellsOpener (encoding : Encoding) (uri text : List ℕ) (position : Position) (json : Data) : Type 0 where
  pub closed : closes (operation_at encoding text position) ≡ true
  pub line : ℕ
  pub range : Data
  pub within : line < length (source_of_text text)
  pub in_line : IsInLine line range
  pub is : json ≡ alone (location uri range)

-- a line, as a text
abbrev pub TellsPartner : ℕ → Data → Type 0
TellsPartner line json = (range : Data) × IsInLine line range × (json ≡ highlight 1 range)

-- lines, where one stands at a position that opens, parts or closes lines
pub record TellsPartners (encoding : Encoding) (text : List ℕ) (position : Position) (json : Data) : Type 0 where
  pub has : has_partners (operation_at encoding text position) ≡ true
  pub lines : List ℕ
  pub within : All (λ line. line < length (source_of_text text)) lines
  pub each : TellsEach TellsPartner lines json
