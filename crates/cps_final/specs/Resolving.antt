-- What everything that can be named stands for after the last line, and a statement there.
use Rattle.cps_final.specs.declared.finals.Finals.{Finals}
use Rattle.cps_final.specs.declared.placed_statement.PlacedStatement.{PlacedStatement as Declared}
use Rattle.cps_final.specs.contracts.finals.FinalsGathered.TheImpl.{gathered-value}
use Rattle.cps_final.specs.Finals.{final_value}
use Rattle.cps_final.specs.Addresses.{Resolved}
use Rattle.cps_final.specs.Known.{PlacedStatement, known_in}

abbrev pub resolved : Finals → Resolved
resolved finals = final_value (gathered-value.it finals)

-- a statement at its final address
abbrev pub view_of : Declared → PlacedStatement
view_of statement = record {
  known = known_in (resolved statement.finals.now) statement.item.now.made;
  machine = statement.item.now.made.machine;
  base = statement.base;
  here = statement.here;
}
