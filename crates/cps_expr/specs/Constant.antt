-- Expressions whose value nothing changes: a number alone is one.
use Rattle.std.specs.Prelude.{◌≡◌, [], Some}
use Rattle.cps_expr.specs.declared.value.Value.{Value as AValue}
use Rattle.cps_expr.specs.Expression.{Expression, names_of}
use Rattle.cps_expr.specs.Value.{Values, value_in}

-- it names nothing, and has this value under all names and at all places
pub record IsConstant (terms : Expression) (value : AValue) : Type 0 where
  pub names : names_of terms ≡ []
  pub same : (values : Values) (here : AValue) → value_in values here terms ≡ Some value
