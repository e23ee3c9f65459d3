-- The numbers that plain values of expressions can be. The range is our profile's.
use Rattle.std.specs.Prelude.{Bool, IsTrue, ℤ}
use Rattle.cps_expr.specs.Value as value

abbrev pub is_in_range : ℤ → Bool
is_in_range number = value.is_in_range (value.plain number)

abbrev pub IsInRange : ℤ → Type 0
IsInRange number = IsTrue (is_in_range number)
