-- What a statement does in pass one: by what it says, by the part of the program in which it stands, and by whether it is assembled, skipped or kept. From the
-- manual's chapter on pseudo instructions; what stands in expansions, and how long a statement may be there, are our profile's.
use Rattle.std.specs.Prelude.{ℕ, Bool, true, false, List, Option, None, Some}
use Rattle.cps_text.specs.declared.name.Name.{Name}
use Rattle.cps_text.specs.Card.{StatementFields, LineFields, CommentLine, ContinuedLine, StatementLine}
use Rattle.cps_expr.specs.declared.operation.Operation.{Operation}
use Rattle.cps_expr.specs.declared.operation.Operation.TheVariants as operation
use Rattle.cps_expr.specs.declared.pseudo.Pseudo.{Pseudo}
use Rattle.cps_expr.specs.declared.pseudo.Pseudo.TheVariants as row
use Rattle.cps_expr.specs.Operation.{operation_named}
use Rattle.cps_state.specs.declared.key.Key.TheVariants as key
use Rattle.cps_state.specs.declared.key.Control.{Control}
use Rattle.cps_state.specs.declared.key.Macro.{Macro}
use Rattle.cps_state.specs.declared.key.Mode.{Mode}
use Rattle.cps_state.specs.declared.key.Mode.TheVariants.{Normal, SkipLines, SkipRange, KeepMacro, KeepDup}
use Rattle.cps_state.specs.declared.key.Phase.{Phase}
use Rattle.cps_state.specs.declared.key.Phase.TheVariants.{Head, Body, AfterEnd}
use Rattle.cps_state.specs.Course.{Part, ◌before◌, asking}
use Rattle.cps_state.specs.Keys.{control_of, mode_of, macro_of}
use Rattle.cps_state.specs.Made.{no_flags}
use Rattle.cps_pass.specs.declared.reading.Location.{Location}
use Rattle.cps_pass.specs.declared.reading.Reading.{Reading}
use Rattle.cps_pass.specs.declared.reading.Reading.TheVariants.{Missing, Unknown, Stated, Unreadable, Instruction, Peripheral}
use Rattle.cps_pass.specs.Reading.{location_in, reading_in}
use Rattle.cps_pass.specs.End.{end}
use Rattle.cps_pass.specs.Head.{leaving_head}
use Rattle.cps_pass.specs.Instruction.{instruction, peripheral_instruction}
use Rattle.cps_pass.specs.Making.{flagged, unknown, misplaced, unmatched}
use Rattle.cps_pass.specs.Places.{asking_place}
use Rattle.cps_pass.specs.Statements.{obeyed_plainly, unreadable_plainly}
use Rattle.cps_pass.specs.declared.scope.Scope.{Scope}
use Rattle.cps_pass.specs.declared.scope.Scope.TheVariants.{Source, Expansion}
use Rattle.cps_text.specs.CardIn.{card_in}
use Rattle.cps_pass.specs.Keeping.{kept_for_macro, kept_for_dup}
use Rattle.cps_pass.specs.Macros.{calling, macro_from}
use Rattle.cps_pass.specs.Ranges.{if_compared, if_defined, else_of, endif_of}
use Rattle.cps_pass.specs.Repeating.{dup}
use Rattle.cps_pass.specs.Scope.{mode_in, Behind, opens_nothing}
use Rattle.cps_pass.specs.Seen.{seen_in}
use Rattle.cps_pass.specs.Skipping.{skipped_line, skipped_in_range}
use Rattle.cps_pass.specs.Treating.{treated}

-- ---- what stays in the head of a program: all but these end it

abbrev pub row_stays : Pseudo → Bool
row_stays (row.Ident name) = true
row_stays row.Abs = true
row_stays row.Periph = true
row_stays (row.Base radix) = true
row_stays (row.Equate terms) = true
row_stays (row.Set terms) = true
row_stays row.Listing = true
row_stays (row.Macro parameters) = true
row_stays row.Endm = true
row_stays _ = false

-- where the operands can't be read
abbrev pub operation_stays : Operation → Bool
operation_stays operation.Ident = true
operation_stays operation.Base = true
operation_stays operation.Equate = true
operation_stays operation.Set = true
operation_stays operation.Macro = true
operation_stays _ = false

-- and a statement without an operation
abbrev pub stays_in_head : Reading → Bool
stays_in_head Missing = true
stays_in_head (Unknown name) = false
stays_in_head (Stated row) = row_stays row
stays_in_head (Unreadable operation) = operation_stays operation
stays_in_head (Instruction form) = false
stays_in_head (Peripheral form) = false

-- ---- statements that are assembled, by what they say

-- MACRO and ENDM of a source line; in an expansion they may not stand
abbrev pub macro : Control → Scope → Location → Option (List Name) → (Scope → Part) → Part
macro control Source location parameters next = macro_from control Source location parameters next
macro control (Expansion own) location parameters next = misplaced before next (Expansion own)

abbrev pub endm : Scope → Location → Part
endm Source location = unmatched location
endm (Expansion own) location = misplaced

-- END in an expansion asks where the block in use stands, and does nothing there
abbrev pub end_within : Control → Part
end_within control = asking_place control (λ place. misplaced)

-- with its operands
abbrev pub obeyed : Control → Scope → Location → Pseudo → (Scope → Part) → Part
obeyed control scope location (row.Macro parameters) next = macro control scope location (Some parameters) next
obeyed control scope location row.Endm next = endm scope location before next scope
obeyed control scope location (row.Compare test) next = if_compared control scope location test next
obeyed control scope location (row.If test) next = if_defined control scope location test next
obeyed control scope location row.Else next = else_of control scope location next
obeyed control scope location row.Endif next = endif_of scope location next
obeyed control scope location (row.Dup repetition) next = dup control scope location repetition next
obeyed control scope location row.Endd next = unmatched location before next scope
obeyed control scope location row.End next = end_within control before next scope
obeyed control scope location other next = obeyed_plainly control location other before next scope

-- with operands that can't be read
abbrev pub unreadable : Control → Scope → Location → Operation → (Scope → Part) → Part
unreadable control scope location operation.Macro next = macro control scope location None next
unreadable control scope location other next = unreadable_plainly control location other before next scope

-- a call of a macro, if there is one
abbrev pub calling_if : Control → Scope → Location → List ℕ → Option Macro → Behind → Part
calling_if control scope location tail None behind = unknown before opens_nothing behind scope
calling_if control scope location tail (Some named) behind = calling control scope location named tail behind

-- None: the operation is no symbol
abbrev pub calling_named : Control → Scope → Location → List ℕ → Option Name → Behind → Part
calling_named control scope location tail None behind = unknown before opens_nothing behind scope
calling_named control scope location tail (Some name) behind = asking (key.Macro name) (λ a. calling_if control scope location tail (macro_of a) behind)

abbrev pub stated : Control → Scope → Location → List ℕ → Reading → Behind → Part
stated control scope location tail Missing behind = unknown before opens_nothing behind scope
stated control scope location tail (Unknown name) behind = calling_named control scope location tail name behind
stated control scope location tail (Stated row) behind = obeyed control scope location row (opens_nothing behind)
stated control scope location tail (Unreadable operation) behind = unreadable control scope location operation (opens_nothing behind)
stated control scope location tail (Instruction form) behind = instruction control location form before opens_nothing behind scope
stated control scope location tail (Peripheral form) behind = peripheral_instruction control location form before opens_nothing behind scope

-- the head ends, unless the statement stays in it
abbrev pub assembled_as : Control → Scope → Location → List ℕ → Reading → Behind → Part
assembled_as control scope location tail reading behind =
    leaving_head (stays_in_head reading) control (λ there. stated there scope location tail reading behind)

-- the machine and the base of numbers decide how a statement is read; a line that continues the one before isn't read
abbrev pub assembled : Control → Scope → LineFields → Behind → Part
assembled control scope CommentLine behind = flagged no_flags before opens_nothing behind scope
assembled control scope ContinuedLine behind = misplaced before opens_nothing behind scope
assembled control scope (StatementLine statement) behind =
    assembled_as control scope (location_in statement.location) statement.tail (reading_in control.machine control.radix statement.operation statement.tail) behind

-- ---- by the mode

abbrev pub in_mode : Control → Scope → List ℕ → Mode → Behind → Part
in_mode control scope text Normal behind = assembled control scope (card_in text) behind
in_mode control scope text (SkipLines count) behind = treated control scope (SkipLines count) text (skipped_line count) behind
in_mode control scope text (SkipRange skip) behind = treated control scope (SkipRange skip) text (skipped_in_range skip (seen_in (card_in text))) behind
in_mode control scope text (KeepMacro body) behind = treated control scope (KeepMacro body) text (kept_for_macro body (seen_in (card_in text))) behind
in_mode control scope text (KeepDup body) behind = treated control scope (KeepDup body) text (kept_for_dup body body.extent (seen_in (card_in text))) behind

-- ---- END, and what stands after it

-- the location field of END on a source line
abbrev pub end_location : StatementFields → Option Operation → Option Location
end_location statement (Some operation.End) = Some (location_in statement.location)
end_location statement _ = None

abbrev pub end_in : Scope → LineFields → Option Location
end_in Source (StatementLine statement) = end_location statement (operation_named statement.operation)
end_in _ _ = None

-- END on a source line is obeyed in every mode
abbrev pub before_end : Control → Mode → Scope → List ℕ → Option Location → Behind → Part
before_end control mode scope text (Some location) behind = end control mode location before opens_nothing behind scope
before_end control mode scope text None behind = in_mode control scope text (mode_in mode scope) behind

-- a line after END that is no comment has E alone
abbrev pub after_end : LineFields → Part
after_end CommentLine = flagged no_flags
after_end ContinuedLine = misplaced
after_end (StatementLine statement) = misplaced

abbrev pub in_phase : Control → Mode → Scope → List ℕ → Phase → Behind → Part
in_phase control mode scope text (Head head) behind = before_end control mode scope text (end_in scope (card_in text)) behind
in_phase control mode scope text Body behind = before_end control mode scope text (end_in scope (card_in text)) behind
in_phase control mode scope text AfterEnd behind = after_end (card_in text) before opens_nothing behind scope

-- a statement, and then what is after it: where it stands by then, and the statements that it opens
abbrev pub statement : Scope → List ℕ → Behind → Part
statement scope text behind = asking key.Control (λ a. in_phase (control_of a) (mode_of a) scope text (control_of a).phase behind)
