-- EQU, `=` and SET. From the manual's descriptions of EQU and SET; that the value is listed beside L and D too, and that a label keeps its value, are our
-- profile's.
use Rattle.std.specs.Prelude.{Bool, true, Option, None, Some, is_none, if◌then◌else◌}
use Rattle.cps_text.specs.declared.name.Name.{Name}
use Rattle.cps_expr.specs.declared.value.Value.{Value as AValue}
use Rattle.cps_expr.specs.Expression.{Expression}
use Rattle.cps_state.specs.declared.flags.Flags.{Flags}
use Rattle.cps_state.specs.declared.key.Answer.TheVariants as answer
use Rattle.cps_state.specs.declared.key.Control.{Control}
use Rattle.cps_state.specs.declared.key.Key.TheVariants as key
use Rattle.cps_state.specs.declared.made.Shown.TheVariants as shown
use Rattle.cps_state.specs.Course.{Part, nothing, ◌before◌, putting, tell, telling_if, fill}
use Rattle.cps_state.specs.Made.{Made, nothing_made, no_flags}
use Rattle.cps_pass.specs.declared.located.Definition.{Definition}
use Rattle.cps_pass.specs.declared.located.Definition.TheVariants.{Free, Labelled, Set}
use Rattle.cps_pass.specs.declared.reading.Location.{Location}
use Rattle.cps_pass.specs.declared.value_now.ValueNow.{ValueNow}
use Rattle.cps_pass.specs.declared.value_now.ValueNow.TheVariants.{Undefined, NoValue, Known}
use Rattle.cps_pass.specs.Located.{symbol_in, is_labelled, asking_definition, asking_taken, defining}
use Rattle.cps_pass.specs.Making.{flagged}
use Rattle.cps_pass.specs.ValueNow.{now_here}

-- ---- what both make

abbrev pub equate_flags : Location → Bool → Flags
equate_flags location is_taken = record no_flags { location = is_none (symbol_in location); twice = is_taken }

-- a value is listed also where the symbol doesn't get it
abbrev pub listing_value : Flags → ValueNow → Made
listing_value flags Undefined = nothing_made (record flags { undefined = true })
listing_value flags NoValue = nothing_made (record flags { operand = true })
listing_value flags (Known value) = record (nothing_made flags) { shown = shown.Value value }

-- what is done with a value, where there is one
abbrev pub with_known : ValueNow → (AValue → Part) → Part
with_known Undefined next = nothing
with_known NoValue next = nothing
with_known (Known value) next = next value

-- ---- EQU and `=`

abbrev pub equate_to : Location → Bool → ValueNow → Part
equate_to location is_taken value =
    with_known value (defining (symbol_in location) is_taken) before fill (listing_value (equate_flags location is_taken) value)

abbrev pub equate : Control → Location → Expression → Part
equate control location terms = asking_taken (symbol_in location) (λ is_taken. now_here control terms (λ value. equate_to location is_taken value))

-- EQU with an unreadable operand
abbrev pub unread_equate : Location → Part
unread_equate location = asking_taken (symbol_in location) (λ is_taken. flagged (record (equate_flags location is_taken) { operand = true }))

-- ---- SET

-- a symbol gets a value; where SET changes a value the symbol counts as read, and a label keeps its value
abbrev pub setting : Option Name → Definition → AValue → Part
setting None definition value = nothing
setting (Some name) Free value = putting (key.Setting name) (answer.Value value)
setting (Some name) Labelled value = nothing
setting (Some name) Set value = tell name before putting (key.Setting name) (answer.Value value)

-- asking what a symbol stands for already: a label, which SET doesn't change, counts as read; where there is no symbol nothing is asked
abbrev pub asking_settable : Option Name → (Definition → Part) → Part
asking_settable None next = next Free
asking_settable (Some name) next = asking_definition name (λ definition. telling_if (is_labelled definition) name before next definition)

abbrev pub set_to : Location → Definition → ValueNow → Part
set_to location definition value =
    with_known value (setting (symbol_in location) definition) before fill (listing_value (equate_flags location (is_labelled definition)) value)

abbrev pub set_symbol : Control → Location → Expression → Part
set_symbol control location terms = asking_settable (symbol_in location) (λ definition. now_here control terms (λ value. set_to location definition value))

-- SET with an unreadable operand
abbrev pub unread_set : Location → Part
unread_set location =
    asking_settable (symbol_in location) (λ definition. flagged (record (equate_flags location (is_labelled definition)) { operand = true }))
