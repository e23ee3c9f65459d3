-- What a statement says: its fields, read. From the manual's section on the statement format.
use Rattle.std.specs.Prelude.{ℕ, List, [], codes, bytes_eq, Option, None, Some, if◌then◌else◌}
use Rattle.cps_text.specs.declared.name.Name.{Name}
use Rattle.cps_expr.specs.declared.machine.Machine.{Machine}
use Rattle.cps_expr.specs.declared.machine.Machine.TheVariants.{Cp, Pp}
use Rattle.cps_expr.specs.declared.operation.Operation.{Operation}
use Rattle.cps_expr.specs.declared.radix.Radix.{Radix}
use Rattle.cps_expr.specs.declared.pseudo.Pseudo.{Pseudo}
use Rattle.cps_expr.specs.Operation.{operation_named}
use Rattle.cps_expr.specs.Statement.{row_with}
use Rattle.cps_text.specs.Name.{name_of}
use Rattle.cps_code.specs.Builtin.{is_operation}
use Rattle.cps_code.specs.RowForms.{form_of}
use Rattle.cps_code.specs.PeripheralTable.{is_operation as is_peripheral_operation, form_of as peripheral_form_of}
use Rattle.cps_pass.specs.declared.reading.Location.{Location}
use Rattle.cps_pass.specs.declared.reading.Location.TheVariants.{Absent, Plus, Minus, Symbol, NoSymbol}
use Rattle.cps_pass.specs.declared.reading.Reading.{Reading}
use Rattle.cps_pass.specs.declared.reading.Reading.TheVariants.{Missing, Unknown, Stated, Unreadable, Instruction, Peripheral}

-- ---- the location field

-- a symbol, or what is none
abbrev pub symbol_or_none : Option Name → Location
symbol_or_none None = NoSymbol
symbol_or_none (Some name) = Symbol name

-- a location field is empty, `+`, `-`, a symbol, or none of these
abbrev pub location_in : List ℕ → Location
location_in field =
    if bytes_eq field [] then Absent
    else (if bytes_eq field (codes "+") then Plus
    else (if bytes_eq field (codes "-") then Minus
    else symbol_or_none (name_of field)))

-- ---- the operation and its operands

-- an instruction of the machine, or an operation that it doesn't have: a macro's, if it is a symbol
abbrev pub instruction_in : Machine → Radix → List ℕ → List ℕ → Reading
instruction_in Cp radix operation tail = if is_operation operation then Instruction (form_of operation tail radix) else Unknown (name_of operation)
instruction_in Pp radix operation tail = if is_peripheral_operation operation then Peripheral (peripheral_form_of operation tail radix) else Unknown (name_of operation)

abbrev pub row_or_none : Operation → Option Pseudo → Reading
row_or_none operation None = Unreadable operation
row_or_none operation (Some row) = Stated row

-- a statement of the statement table, or else an instruction
abbrev pub reading_with : Option Operation → Machine → Radix → List ℕ → List ℕ → Reading
reading_with None machine radix operation tail = instruction_in machine radix operation tail
reading_with (Some named) machine radix operation tail = row_or_none named (row_with named tail machine radix)

abbrev pub reading_in : Machine → Radix → List ℕ → List ℕ → Reading
reading_in machine radix operation tail = if bytes_eq operation [] then Missing else reading_with (operation_named operation) machine radix operation tail
