-- Whether what the statements of a line name has the same final values as before. Our own.
use Rattle.std.specs.Prelude.{Bool, List}
use Rattle.std.specs.List.{list_all}
use Rattle.std.specs.Option.{option_eq}
use Rattle.cps_expr.specs.declared.value.Value.{Value}
use Rattle.cps_expr.specs.contracts.value.ValuePartialEq.TheImpl.{eq-value}
use Rattle.cps_state.specs.declared.item.Item.{Item}
use Rattle.cps_final.specs.Finals.{Named}
use Rattle.cps_final.specs.Outcome.{Resolved}
pub use Rattle.cps_final.specs.Naming.{all_named}

-- what `==` says of two values
abbrev pub same_value : Value → Value → Bool
same_value = eq-value.it

-- something that is named has the same final value in both, or in neither any
abbrev pub same_at : Resolved → Resolved → Named → Bool
same_at was now named = option_eq same_value (was named) (now named)

-- all that some statements name has the same final values
abbrev pub same_named : Resolved → Resolved → List Item → Bool
same_named was now items = list_all (all_named (same_at was now)) items
