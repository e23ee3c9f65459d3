-- What a reading gives, where memory may be refused.
use Rattle.std.specs.Prelude.{◌≡◌, Bool, true, false, Option, Some, is_some, Result, Ok, Err}
use Rattle.cps_expr.specs.declared.expr.ExprFault.{ExprFault}
use Rattle.cps_expr.specs.declared.expr.ExprFault.TheVariants.{Unreadable, Memory}

abbrev pub is_memory : ExprFault → Bool
is_memory Unreadable = false
is_memory Memory = true

-- a reading gives what is written; without one the fault is Memory exactly where what is written can be read
abbrev pub Reads : {T : Type 0} → Result T ExprFault → Option T → Type 0
Reads (Ok value) written = written ≡ Some value
Reads (Err fault) written = is_some written ≡ is_memory fault
