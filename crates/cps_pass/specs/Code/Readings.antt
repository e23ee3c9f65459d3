-- For the code of pass one, not part of what a reader believes: what holds of all that is read in a program for a machine.
use Rattle.cps_expr.specs.declared.machine.Machine.{Machine}
use Rattle.cps_expr.specs.Bounds.{IsBounded}
use Rattle.cps_pass.specs.declared.reading.Reading.{Reading}
use Rattle.cps_pass.specs.declared.reading.Reading.TheVariants.{Stated}

-- the operands of a statement fit the machine
abbrev pub IsReading : Machine → Reading → Type 0
IsReading machine (Stated row) = IsBounded machine row
IsReading machine _ = Unit {0}
