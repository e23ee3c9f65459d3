-- For the code, not part of what a reader believes: values of symbols, as the code keeps them.
use Rattle.std.specs.Prelude.{List, [], ◌∷◌, Option, None, if◌then◌else◌}
use Rattle.cps_text.specs.declared.name.Name.{Name}
use Rattle.cps_expr.specs.declared.value.Value.{Value}
use Rattle.cps_expr.specs.Value.{same_name}
use Rattle.cps_cause.specs.declared.symbols_now.SymbolNow.{SymbolNow}

-- the value of a symbol
abbrev pub value_among : List SymbolNow → Name → Option Value
value_among [] name = None
value_among (now ∷ symbols) name = if same_name now.name name then now.value else value_among symbols name
