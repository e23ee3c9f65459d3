use Rattle.std.proofs.Common.{◌≡◌, ◌≤◌, true, take}
use Rattle.std.specs.List.{list_all}
use Rattle.cps_text.specs.Text.{is_digit}
use Rattle.cps_text.specs.Digits.{digits_number}
use Rattle.cps_expr.proofs.number.number_in_base.Given as goal

abbrev pub invariant-loop-digit : goal.invariant-loop-digit
invariant-loop-digit l = record {
  digits : list_all (is_digit l.base) (take l.digit-index l.digits) ≡ true;
  number : l.number ≡ digits_number l.base (take l.digit-index l.digits);
  small : l.number ≤ l.greatest;
}
