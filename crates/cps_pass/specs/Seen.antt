-- What is looked at in a line that is not assembled. From the manual's descriptions of IF, DUP and macros; that ranges in a range are known by the number
-- of their operands alone is our profile's.
use Rattle.std.specs.Prelude.{ℕ, Bool, nat_lt, length, List, Option, Some, if◌then◌else◌}
use Rattle.cps_text.specs.Card.{StatementFields, LineFields, CommentLine, ContinuedLine, StatementLine}
use Rattle.cps_text.specs.Operands.{operands_of}
use Rattle.cps_expr.specs.declared.operation.Operation.{Operation}
use Rattle.cps_expr.specs.declared.operation.Operation.TheVariants as operation
use Rattle.cps_expr.specs.Operation.{operation_named}
use Rattle.cps_pass.specs.Reading.{location_in}
use Rattle.cps_pass.specs.declared.seen.Seen.{Seen}
use Rattle.cps_pass.specs.declared.seen.Seen.TheVariants.{Begins, Else, Endif, Repeats, Endd, Defines, Endm, Other}

-- an IF begins a range, but with the number of lines, its third operand
abbrev pub begins_range : List ℕ → Bool
begins_range tail = nat_lt (length (operands_of tail)) 3

-- a DUP begins one, but with the number of lines, its second operand
abbrev pub begins_lines : List ℕ → Bool
begins_lines tail = nat_lt (length (operands_of tail)) 2

abbrev pub seen_by : Option Operation → StatementFields → Seen
seen_by (Some (operation.Compare relation)) statement = if begins_range statement.tail then Begins else Other
seen_by (Some operation.If) statement = if begins_range statement.tail then Begins else Other
seen_by (Some operation.Else) statement = Else (location_in statement.location)
seen_by (Some operation.Endif) statement = Endif (location_in statement.location)
seen_by (Some operation.Dup) statement = if begins_lines statement.tail then Repeats else Other
seen_by (Some operation.Endd) statement = Endd (location_in statement.location)
seen_by (Some operation.Macro) statement = Defines
seen_by (Some operation.Endm) statement = Endm (location_in statement.location)
seen_by _ statement = Other

abbrev pub seen_in : LineFields → Seen
seen_in CommentLine = Other
seen_in ContinuedLine = Other
seen_in (StatementLine statement) = seen_by (operation_named statement.operation) statement
