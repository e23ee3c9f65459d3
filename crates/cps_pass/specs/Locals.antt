-- LOCAL in the body of a macro: names that each call has for itself, for which generated ones stand. From the manual's section on LOCAL; which lines of a body
-- are LOCAL lines, how names are generated, and how many there may be, are our profile's.
use Rattle.std.specs.Prelude.{ℕ, ◌+◌, Bool, true, false, nat_lt, length, is_some, take, drop, List, [], ◌∷◌, ◌++◌, Option, None, Some, if◌then◌else◌}
use Rattle.std.specs.List.{list_any, prefix_len}
use Rattle.cps_text.specs.declared.name.Name.{Name}
use Rattle.cps_text.specs.Card.{LineFields, CommentLine, ContinuedLine, StatementLine}
use Rattle.cps_text.specs.declared.limits.TheConstants.{MOST_GENERATED}
use Rattle.cps_text.specs.Insertion.{Pairs, text_of}
use Rattle.cps_text.specs.Name.{generated_text}
use Rattle.cps_text.specs.Operands.{operands_of}
use Rattle.cps_expr.specs.declared.operation.Operation.{Operation}
use Rattle.cps_expr.specs.declared.operation.Operation.TheVariants as operation
use Rattle.cps_expr.specs.Operation.{operation_named}
use Rattle.cps_expr.specs.Row.{locals_of}
use Rattle.cps_state.specs.declared.key.Answer.TheVariants as answer
use Rattle.cps_state.specs.declared.key.Key.TheVariants as key
use Rattle.cps_state.specs.declared.key.Macro.{Macro}
use Rattle.cps_state.specs.Course.{Part, ◌before◌, asking, putting, begin, deepest}
use Rattle.cps_state.specs.Keys.{count_of}
use Rattle.cps_pass.specs.declared.reading.Location.{Location}
use Rattle.cps_pass.specs.Reading.{location_in}
use Rattle.cps_pass.specs.Located.{present_flags}
use Rattle.cps_pass.specs.Making.{flagged, unread}
use Rattle.cps_text.specs.CardIn.{card_in}

-- ---- the LOCAL lines of a body: those that it begins with whose operation, as written, is LOCAL

abbrev pub is_local_operation : Option Operation → Bool
is_local_operation (Some operation.Local) = true
is_local_operation _ = false

abbrev pub is_local_card : LineFields → Bool
is_local_card CommentLine = false
is_local_card ContinuedLine = false
is_local_card (StatementLine statement) = is_local_operation (operation_named statement.operation)

abbrev pub is_local : List ℕ → Bool
is_local line = is_local_card (card_in line)

abbrev pub local_count : List (List ℕ) → ℕ
local_count lines = prefix_len is_local lines

-- a macro of these parameters and lines
abbrev pub macro_of_lines : List Name → List (List ℕ) → Macro
macro_of_lines parameters lines = record { parameters = parameters; locals = take (local_count lines) lines; lines = drop (local_count lines) lines }

-- ---- the names of a LOCAL line

-- a text stands for a name already: it is a parameter of the macro, or a local name of the call
abbrev pub is_taken : Pairs → Name → Bool
is_taken pairs name = is_some (text_of pairs name)

-- None: the operands can't be read, or one of the names is taken
abbrev pub names_new : Pairs → Option (List Name) → Option (List Name)
names_new pairs None = None
names_new pairs (Some names) = if list_any (is_taken pairs) names then None else Some names

-- names with the generated names behind so many others
abbrev pub generated_behind : ℕ → List Name → Pairs
generated_behind count [] = []
generated_behind count (name ∷ names) = (name, generated_text (count + 1)) ∷ generated_behind (count + 1) names

-- ---- a LOCAL line

-- the line is dropped, as for a statement that stands too deep
abbrev pub giving_up : Part
giving_up = begin (deepest + 1) []

-- where there are no more generated names the line is dropped
abbrev pub generating : Pairs → Location → List Name → ℕ → (Pairs → Part) → Part
generating pairs location names count next =
    if nat_lt MOST_GENERATED (count + length names) then giving_up
    else putting key.Locals (answer.Count (count + length names)) before flagged (present_flags location) before next (pairs ++ generated_behind count names)

-- None: A, and nothing is named
abbrev pub naming_by : Pairs → Location → Option (List Name) → ℕ → (Pairs → Part) → Part
naming_by pairs location None count next = unread location before next pairs
naming_by pairs location (Some names) count next = generating pairs location names count next

-- it asks how many names were generated so far; what is inserted in the lines behind it has its names too
abbrev pub local_in : Pairs → LineFields → (Pairs → Part) → Part
local_in pairs CommentLine next = next pairs
local_in pairs ContinuedLine next = next pairs
local_in pairs (StatementLine statement) next =
    asking key.Locals (λ a. naming_by pairs (location_in statement.location) (names_new pairs (locals_of (operands_of statement.tail))) (count_of a) next)

-- the LOCAL lines of a call at their depth, as they stand, and then what hangs on the names
abbrev pub naming_all : ℕ → Pairs → List (List ℕ) → (Pairs → Part) → Part
naming_all depth pairs [] next = next pairs
naming_all depth pairs (line ∷ lines) next = begin depth line before local_in pairs (card_in line) (λ more. naming_all depth more lines next)
