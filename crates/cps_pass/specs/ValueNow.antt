-- Values in pass one: a name counts if a line above defined it; a value that SET gave it stands before its label. From the manual's sections on symbols,
-- on SET and on the two passes.
use Rattle.std.specs.Prelude.{List, [], ◌∷◌, pos, Option, None, Some, if◌then◌else◌}
use Rattle.std.specs.Option.{option_or}
use Rattle.cps_text.specs.declared.name.Name.{Name}
use Rattle.cps_expr.specs.declared.value.Value.{Value as AValue}
use Rattle.cps_expr.specs.Expression.{Expression, names_of, has_counter}
use Rattle.cps_expr.specs.Value.{Values, plain, same_name, value_in, has_undefined}
use Rattle.cps_code.specs.Place.{position}
use Rattle.cps_state.specs.declared.key.Control.{Control}
use Rattle.cps_state.specs.declared.key.Answer.{Answer}
use Rattle.cps_state.specs.declared.key.Key.TheVariants as key
use Rattle.cps_state.specs.Course.{Part, ◌before◌, asking, tell}
use Rattle.cps_state.specs.Keys.{value_of}
use Rattle.cps_pass.specs.declared.value_now.ValueNow.{ValueNow}
use Rattle.cps_pass.specs.declared.value_now.ValueNow.TheVariants.{Undefined, NoValue, Known}
use Rattle.cps_pass.specs.Places.{here_at, asking_place}

abbrev pub known_or_none : Option AValue → ValueNow
known_or_none None = NoValue
known_or_none (Some value) = Known value

abbrev pub no_values : Values
no_values name = None

-- values of names, with that of one name
abbrev pub with_value : Name → Option AValue → Values → Values
with_value name value values other = if same_name name other then value else values other

-- what a name stands for, by what stands at its label and at its setting
abbrev pub meant : Option Answer → Option Answer → Option AValue
meant label setting = option_or (value_of setting) (value_of label)

-- asking the values of names, which are read
abbrev pub names_now : List Name → (Values → Part) → Part
names_now [] next = next no_values
names_now (name ∷ names) next =
    asking (key.Label name) (λ a. asking (key.Setting name) (λ b. tell name before names_now names (λ values. next (with_value name (meant a b) values))))

-- the value of an expression; a name without a value leaves it undefined
abbrev pub value_now : Values → AValue → Expression → ValueNow
value_now values here terms = if has_undefined values terms then Undefined else known_or_none (value_in values here terms)

-- asking the value of an expression, where `*` has this value
abbrev pub now : Expression → AValue → (ValueNow → Part) → Part
now terms here next = names_now (names_of terms) (λ values. next (value_now values here terms))

-- asking what `*` is, if it stands in an expression: the present word of the block in use, begun or not. Then the statement has its place there.
abbrev pub asking_here : Control → Expression → (AValue → Part) → Part
asking_here control terms next =
    if has_counter terms then asking_place control (λ place. next (here_at control.block (position place))) else next (plain (pos 0))

-- asking the value of an expression in which `*` is the present word
abbrev pub now_here : Control → Expression → (ValueNow → Part) → Part
now_here control terms next = asking_here control terms (λ here. now terms here next)
