-- For the code of pass one, not part of what a reader believes: what the functions that hand values on do, what is asked of a statement on the way to its
-- meaning, and the meaning of what these functions are given.
use Rattle.std.specs.Prelude.{◌≡◌, ℕ, Bool, true, false, List, Option, None, Some, Result, IfOk, OnOk, option_map}
use Rattle.cps_text.specs.declared.card.StatementFields.{StatementFields as FieldsOfCode}
use Rattle.cps_text.specs.Card.{LineFields, StatementLine}
use Rattle.cps_text.specs.Insertion.{Pairs}
use Rattle.cps_expr.specs.declared.machine.Machine.{Machine}
use Rattle.cps_expr.specs.declared.operation.Operation.{Operation}
use Rattle.cps_expr.specs.declared.radix.Radix.{Radix}
use Rattle.cps_expr.specs.Operation.{operation_named}
use Rattle.cps_state.specs.declared.key.Control.{Control}
use Rattle.cps_state.specs.declared.key.Macro.{Macro}
use Rattle.cps_state.specs.declared.key.Mode.{Mode}
use Rattle.cps_state.specs.declared.key.Mode.TheVariants.{Normal}
use Rattle.cps_state.specs.Course.{Course, Part}
use Rattle.cps_state.specs.Keys.{State}
use Rattle.cps_state.specs.Code.Line.{Line, Hands, runs, goes_on}
use Rattle.cps_pass.specs.declared.reading.Location.{Location}
use Rattle.cps_pass.specs.Reading.{instruction_in}
use Rattle.cps_pass.specs.declared.value_now.ValueNow.{ValueNow}
use Rattle.cps_pass.specs.declared.opened.Opened.{Opened}
use Rattle.cps_pass.specs.declared.scope.Scope.{Scope}
use Rattle.cps_pass.specs.declared.treating.Passing.{Passing}
use Rattle.cps_pass.specs.Macros.{opening_with}
use Rattle.cps_pass.specs.Meaning.{in_mode, stated}
use Rattle.cps_pass.specs.Code.Opened.{opening_of}
use Rattle.cps_pass.specs.Opening.{Opening}
use Rattle.cps_pass.specs.Repeating.{body_count, repeating_lines}
use Rattle.cps_pass.specs.Scope.{Behind}

-- the lines that were kept were taken
abbrev pub TakesBody : {S : Type 0} → ((List (List ℕ) → Scope → Part) → Part) → List (List ℕ) → Scope → (S → State) → Line S → Line S → Type 0
TakesBody part lines scope answer old new = (next : List (List ℕ) → Scope → Part) (rest : Course) → runs (part next rest) answer old ≡ runs (next lines scope rest) answer new

-- a statement was done, and hands on where it stands by then and what it opens
abbrev pub HandsOn : {S : Type 0} → (Behind → Part) → Scope → Opening → (S → State) → Line S → Line S → Type 0
HandsOn part scope opened answer old new = (behind : Behind) (rest : Course) → runs (part behind rest) answer old ≡ runs (behind scope opened rest) answer new

-- where nothing failed, a part was done, and hands on where the statement stands by then
abbrev pub Leads : {R E S : Type 0} → Result R E → ((Scope → Part) → Part) → Scope → (S → State) → Line S → Line S → Type 0
Leads result part later answer old new = OnOk result (Hands part later answer old new)

-- where nothing failed, a statement was done, and hands on where it stands by then and what the result says that it opens
abbrev pub Opens : {E S : Type 0} → Result (Option Opened) E → (Behind → Part) → Scope → (S → State) → Line S → Line S → Type 0
Opens result part later answer old new = IfOk result (λ opened. HandsOn part later (opening_of opened) answer old new)

-- where nothing failed, the result opens the body of a macro with the arguments, and nothing where there are none
abbrev pub OpensBody : {E : Type 0} → Result (Option Opened) E → Macro → Option Pairs → Type 0
OpensBody result named pairs = IfOk result (λ opened. option_map (λ o. opening_of (Some o)) opened ≡ option_map (λ ps. opening_with ps named) pairs)

-- statements were completed, and hand on where they stand by then, or came to one that is too much
abbrev pub Walks : {S : Type 0} → ((Scope → Part) → Part) → Bool → Scope → (S → State) → Line S → Line S → Type 0
Walks part complete scope answer old new = (next : Scope → Part) (rest : Course) → runs (part next rest) answer old ≡ goes_on complete (next scope rest) answer new

-- whether a statement is skipped or kept
abbrev pub is_passed : Mode → Bool
is_passed Normal = false
is_passed _ = true

-- the operation of the statement table that a line has
abbrev pub operation_in : LineFields → Option Operation
operation_in (StatementLine statement) = operation_named statement.operation
operation_in _ = None

-- a statement that the statement table doesn't have: an instruction of a machine, or a call of a macro
abbrev pub unnamed : Machine → Radix → Control → Scope → Location → FieldsOfCode → Behind → Part
unnamed machine radix control scope location statement =
    stated control scope location statement.tail.now (instruction_in machine radix statement.operation.now statement.tail.now)

-- lines of a number that is known
abbrev pub repeating_known : Control → Scope → Location → ValueNow → ValueNow → (Scope → Part) → Part
repeating_known control scope location times lines = repeating_lines control scope location times lines (body_count lines)

-- what is done with a line that is passed, by its control, its mode and its text
abbrev pub with_passing : {T : Type 0} → (Control → Scope → Mode → List ℕ → T) → Passing → Scope → T
with_passing word passing scope = word passing.control scope passing.mode.now passing.text.now

-- a line that is passed, by its mode
abbrev pub passed : Passing → Scope → Behind → Part
passed passing scope = in_mode passing.control scope passing.text.now passing.mode.now
