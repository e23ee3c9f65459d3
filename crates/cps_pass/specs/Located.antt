-- Location fields, and the symbols that they define. From the manual's sections on the location field and on symbols.
use Rattle.std.specs.Prelude.{Bool, true, false, Option, None, Some, if◌then◌else◌}
use Rattle.cps_text.specs.declared.name.Name.{Name}
use Rattle.cps_expr.specs.declared.value.Value.{Value as AValue}
use Rattle.cps_state.specs.declared.flags.Flags.{Flags}
use Rattle.cps_state.specs.declared.key.Key.TheVariants as key
use Rattle.cps_state.specs.declared.key.Answer.TheVariants as answer
use Rattle.cps_state.specs.Course.{Part, nothing, ◌before◌, asking, putting, telling_if}
use Rattle.cps_state.specs.Keys.{value_of}
use Rattle.cps_state.specs.Made.{no_flags}
use Rattle.cps_pass.specs.declared.located.Definition.{Definition}
use Rattle.cps_pass.specs.declared.located.Definition.TheVariants.{Free, Labelled, Set}
use Rattle.cps_pass.specs.declared.reading.Location.{Location}
use Rattle.cps_pass.specs.declared.reading.Location.TheVariants.{Absent, Plus, Minus, Symbol, NoSymbol}

-- whether a location field isn't empty
abbrev pub is_present : Location → Bool
is_present Absent = false
is_present Plus = true
is_present Minus = true
is_present (Symbol name) = true
is_present NoSymbol = true

-- L for a location field of a statement that takes none
abbrev pub present_flags : Location → Flags
present_flags location = record no_flags { location = is_present location }

-- the symbol of a location field
abbrev pub symbol_in : Location → Option Name
symbol_in Absent = None
symbol_in Plus = None
symbol_in Minus = None
symbol_in (Symbol name) = Some name
symbol_in NoSymbol = None

-- ---- what a symbol stands for already

abbrev pub defined_by : Option AValue → Option AValue → Definition
defined_by (Some label) setting = Labelled
defined_by None (Some value) = Set
defined_by None None = Free

abbrev pub is_labelled : Definition → Bool
is_labelled Free = false
is_labelled Labelled = true
is_labelled Set = false

abbrev pub has_value : Definition → Bool
has_value Free = false
has_value Labelled = true
has_value Set = true

abbrev pub asking_definition : Name → (Definition → Part) → Part
asking_definition name next = asking (key.Label name) (λ a. asking (key.Setting name) (λ b. next (defined_by (value_of a) (value_of b))))

-- asking whether a symbol has a value already: one that has counts as read; where there is no symbol nothing is asked
abbrev pub asking_taken : Option Name → (Bool → Part) → Part
asking_taken None next = next false
asking_taken (Some name) next = asking_definition name (λ definition. telling_if (has_value definition) name before next (has_value definition))

-- a symbol gets a value; one that has a value keeps it
abbrev pub defining : Option Name → Bool → AValue → Part
defining None is_taken value = nothing
defining (Some name) is_taken value = if is_taken then nothing else putting (key.Label name) (answer.Value value)
