-- Readings of two operands.
use Rattle.std.proofs.Common.{[], Option, None, Some, refl, ap, subst}
use Rattle.std.specs.Prelude.{Result, Ok, Err, IfOk}
use Rattle.cps_expr.specs.declared.expr.ExprFault.{ExprFault}
use Rattle.cps_expr.specs.declared.expr.ExprFault.TheVariants.{Unreadable, Memory}
use Rattle.cps_expr.specs.declared.machine.Machine.TheVariants.{Pp}
use Rattle.cps_expr.specs.Expression.{Expression}
use Rattle.cps_expr.specs.OperandList.{paired}
use Rattle.cps_expr.specs.Reads.{Reads}
use Rattle.cps_code.specs.declared.hole.Operand.{Operand}
use Rattle.cps_code.specs.declared.hole.Operand.TheVariants as operand
use Rattle.cps_code.specs.Operand.{IsOperand}

abbrev Two : Type 0
Two = Operand × Option Expression

-- what a reading may have read
abbrev read_of : Result (Option Expression) ExprFault → Option (Option Expression)
read_of (Ok x) = Some x
read_of (Err Unreadable) = None
read_of (Err Memory) = Some None

is_read : (read : Result (Option Expression) ExprFault) → Reads read (read_of read)
is_read (Ok x) = refl
is_read (Err Unreadable) = refl
is_read (Err Memory) = refl

fits_first : (x : Operand) (y : Option (Option Expression)) (result : Result Two ExprFault) → IsOperand Pp x → Reads result (paired (Some x) y) → IfOk result (λ found. IsOperand Pp found.0)
fits_first x y (Err fault) fits reads = tt
fits_first x None (Ok found) fits reads = cc
fits_first x (Some y) (Ok found) fits reads =
    subst (IsOperand Pp) (ap of_option reads) fits
  where
    of_option : Option Two → Operand
    of_option None = x
    of_option (Some two) = two.0

-- the first of two that are read
pub first_fits : (first : Result Operand ExprFault) (second : Result (Option Expression) ExprFault) (result : Result Two ExprFault)
    → ((x : Option Operand) (y : Option (Option Expression)) → Reads first x → Reads second y → Reads result (paired x y))
    → IfOk first (IsOperand Pp) → IfOk result (λ found. IsOperand Pp found.0)
first_fits (Ok x) second result reads fits = fits_first x (read_of second) result fits (reads (Some x) (read_of second) refl (is_read second))
first_fits (Err Memory) second result reads fits =
    fits_first (operand.Expression []) (read_of second) result tt (reads (Some (operand.Expression [])) (read_of second) refl (is_read second))
first_fits (Err Unreadable) second (Err fault) reads fits = tt
first_fits (Err Unreadable) second (Ok found) reads fits = let none = reads None (read_of second) refl (is_read second) in cc
