-- For the loop over names, not part of what a reader believes: values of names in pass one, as the code keeps them.
use Rattle.std.specs.Prelude.{List, [], ◌∷◌}
use Rattle.cps_text.specs.declared.name.Name.{Name}
use Rattle.cps_expr.specs.Value.{Values}
use Rattle.cps_state.specs.declared.key.Key.TheVariants as key
use Rattle.cps_state.specs.Course.{Part, ◌before◌, asking, tell}
use Rattle.cps_pass.specs.declared.value_now.NameNow.{NameNow}
use Rattle.cps_pass.specs.ValueNow.{no_values, with_value, meant}

-- values, with those of some names
abbrev pub with_values : List NameNow → Values → Values
with_values [] values = values
with_values (now ∷ names) values = with_value now.name now.value (with_values names values)

abbrev pub values_in : List NameNow → Values
values_in names = with_values names no_values

-- asking the value of a name, which is read
abbrev pub name_now : Name → (NameNow → Part) → Part
name_now name next = asking (key.Label name) (λ a. asking (key.Setting name) (λ b. tell name before next (record { name = name; value = meant a b })))
