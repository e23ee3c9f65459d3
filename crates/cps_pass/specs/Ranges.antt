-- Conditional assembly: IFEQ and the like, IF, ELSE and ENDIF. From the manual's descriptions of these statements; that a flagged test doesn't hold,
-- which values don't compare, how many lines may hang on one, how many ranges may be open, and that ELSE turns a range round only once, are our
-- profile's.
use Rattle.std.specs.Prelude.{ℕ, ℤ, Bool, true, false, not, nat_eq, nat_le, int_lt, int_le, length, List, [], ◌∷◌, Option, None, Some, if◌then◌else◌}
use Rattle.std.specs.Ordering.{int_eq}
use Rattle.cps_text.specs.declared.limits.TheConstants.{MOST_COUNTED_LINES}
use Rattle.cps_expr.specs.declared.operation.Relation.{Relation}
use Rattle.cps_expr.specs.declared.operation.Relation.TheVariants.{Equal, NotEqual, Greater, GreaterOrEqual, Less, LessOrEqual}
use Rattle.cps_expr.specs.declared.pseudo.SymbolTest.{SymbolTest}
use Rattle.cps_expr.specs.declared.pseudo.ValueTest.{ValueTest}
use Rattle.cps_expr.specs.Expression.{Expression}
use Rattle.cps_state.specs.declared.flags.Flags.{Flags}
use Rattle.cps_state.specs.declared.key.Control.{Control}
use Rattle.cps_state.specs.declared.key.Mode.TheVariants.{SkipLines, SkipRange}
use Rattle.cps_state.specs.declared.key.OpenRange.{OpenRange}
use Rattle.cps_state.specs.declared.key.OpenRange.TheVariants.{BeforeElse, BehindElse}
use Rattle.cps_state.specs.Course.{Part, ◌before◌, tell}
use Rattle.cps_state.specs.Flags.{joined}
use Rattle.cps_state.specs.Keys.{most_ranges, same_block}
use Rattle.cps_state.specs.Made.{no_flags}
use Rattle.cps_pass.specs.declared.ranges.Tested.{Tested}
use Rattle.cps_pass.specs.declared.reading.Location.{Location}
use Rattle.cps_pass.specs.declared.value_now.ValueNow.{ValueNow}
use Rattle.cps_pass.specs.declared.value_now.ValueNow.TheVariants.{Undefined, NoValue, Known}
use Rattle.cps_pass.specs.Located.{present_flags, has_value, asking_definition}
use Rattle.cps_pass.specs.Numbers.{between, plain_number}
use Rattle.cps_pass.specs.ValueNow.{now_here}
use Rattle.cps_pass.specs.declared.scope.Scope.{Scope}
use Rattle.cps_pass.specs.Making.{unmatched}
use Rattle.cps_pass.specs.Scope.{going_by, asking_ranges, putting_ranges, flagging}

-- how many lines may hang on an IF
abbrev pub most_counted_lines : ℕ
most_counted_lines = MOST_COUNTED_LINES

-- ---- tests

abbrev pub relates : Relation → ℤ → ℤ → Bool
relates Equal a b = int_eq a b
relates NotEqual a b = not (int_eq a b)
relates Greater a b = int_lt b a
relates GreaterOrEqual a b = int_le b a
relates Less a b = int_lt a b
relates LessOrEqual a b = int_le a b

-- U for an undefined name, A for no value
abbrev pub value_flags : ValueNow → Flags
value_flags Undefined = record no_flags { undefined = true }
value_flags NoValue = record no_flags { operand = true }
value_flags (Known value) = no_flags

-- two values, if they are both plain or in one block; else A
abbrev pub compared : Relation → ValueNow → ValueNow → Tested
compared relation (Known a) (Known b) =
    if same_block a.block b.block then record { holds = relates relation a.offset b.offset; flags = no_flags }
    else record { holds = false; flags = record no_flags { operand = true } }
compared relation a b = record { holds = false; flags = joined (value_flags a) (value_flags b) }

abbrev pub asking_compared : Control → ValueTest → (Tested → Part) → Part
asking_compared control test next = now_here control test.left (λ a. now_here control test.right (λ b. next (compared test.relation a b)))

-- the symbol has a value, or with `-DEF` has none
abbrev pub defined : Bool → Bool → Tested
defined true has_value = record { holds = has_value; flags = no_flags }
defined false has_value = record { holds = not has_value; flags = no_flags }

-- the symbol is read
abbrev pub asking_defined : SymbolTest → (Tested → Part) → Part
asking_defined test next = asking_definition test.symbol (λ definition. tell test.symbol before next (defined test.is_defined (has_value definition)))

-- ---- what hangs on a test

-- so many lines: a plain number
abbrev pub line_count : ValueNow → Option ℕ
line_count value = between 0 most_counted_lines (plain_number value)

-- U for an undefined name, A for what is no number of lines
abbrev pub count_flags : ValueNow → Option ℕ → Flags
count_flags value (Some count) = no_flags
count_flags Undefined None = record no_flags { undefined = true }
count_flags NoValue None = record no_flags { operand = true }
count_flags (Known value) None = record no_flags { operand = true }

-- the lines are skipped where the test doesn't hold
abbrev pub skipping_lines : Control → Scope → Bool → Option ℕ → (Scope → Part) → Part
skipping_lines control scope true count next = next scope
skipping_lines control scope false None next = next scope
skipping_lines control scope false (Some count) next = if nat_eq count 0 then next scope else going_by control scope (SkipLines count) next

abbrev pub counting : Control → Scope → Location → Tested → ValueNow → (Scope → Part) → Part
counting control scope location test value next =
    skipping_lines control scope test.holds (line_count value)
    (λ later. flagging (joined (present_flags location) (joined test.flags (count_flags value (line_count value)))) later next)

-- a range whose test holds is open; one whose test doesn't is skipped, to its ELSE or its end
abbrev pub beginning_range : Control → Scope → Bool → List OpenRange → (Scope → Part) → Part
beginning_range control scope true ranges next = putting_ranges scope (BeforeElse ∷ ranges) next
beginning_range control scope false ranges next = going_by control scope (SkipRange (record { nested = 0; may_resume = true })) next

abbrev pub test_flags : Location → Tested → Flags
test_flags location test = joined (present_flags location) test.flags

-- E where too many are open
abbrev pub opening : Control → Scope → Location → Tested → List OpenRange → (Scope → Part) → Part
opening control scope location test ranges next =
    if nat_le most_ranges (length ranges) then flagging (record (test_flags location test) { structure = true }) scope next
    else beginning_range control scope test.holds ranges (λ later. flagging (test_flags location test) later next)

-- lines of a number, or up to ENDIF
abbrev pub hanging_range : Control → Scope → Location → Tested → (Scope → Part) → Part
hanging_range control scope location test next = asking_ranges scope (λ ranges. opening control scope location test ranges next)

abbrev pub hanging_lines : Control → Scope → Location → Expression → Tested → (Scope → Part) → Part
hanging_lines control scope location lines test next = now_here control lines (λ value. counting control scope location test value next)

abbrev pub hanging : Control → Scope → Location → Option Expression → Tested → (Scope → Part) → Part
hanging control scope location None test next = hanging_range control scope location test next
hanging control scope location (Some lines) test next = hanging_lines control scope location lines test next

-- ---- IFEQ and the like, and IF

abbrev pub if_compared : Control → Scope → Location → ValueTest → (Scope → Part) → Part
if_compared control scope location test next = asking_compared control test (λ tested. hanging control scope location test.lines tested next)

abbrev pub if_defined : Control → Scope → Location → SymbolTest → (Scope → Part) → Part
if_defined control scope location test next = asking_defined test (λ tested. hanging control scope location test.lines tested next)

-- ---- ELSE and ENDIF: E where there is no range for them

-- the newest range is skipped from here on, to its end
abbrev pub turned_round : Control → Scope → Location → List OpenRange → (Scope → Part) → Part
turned_round control scope location (BeforeElse ∷ ranges) next =
    putting_ranges scope ranges (λ within. going_by control within (SkipRange (record { nested = 0; may_resume = false }))
    (λ later. flagging (present_flags location) later next))
turned_round control scope location (BehindElse ∷ ranges) next = unmatched location before next scope
turned_round control scope location [] next = unmatched location before next scope

abbrev pub else_of : Control → Scope → Location → (Scope → Part) → Part
else_of control scope location next = asking_ranges scope (λ ranges. turned_round control scope location ranges next)

-- the newest range ends
abbrev pub closed : Scope → Location → List OpenRange → (Scope → Part) → Part
closed scope location [] next = unmatched location before next scope
closed scope location (range ∷ ranges) next = putting_ranges scope ranges (λ later. flagging (present_flags location) later next)

abbrev pub endif_of : Scope → Location → (Scope → Part) → Part
endif_of scope location next = asking_ranges scope (λ ranges. closed scope location ranges next)
