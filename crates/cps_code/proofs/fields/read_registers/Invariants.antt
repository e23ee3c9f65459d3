use Rattle.std.proofs.Common.{◌≡◌, drop}
use Rattle.cps_text.specs.Code.OperandsLeft.{operands_left}
use Rattle.cps_code.specs.RowForms.{registers_in}
use Rattle.cps_code.specs.Code.Operations.{texts}
use Rattle.cps_code.specs.Digits.{AreDigits}
use Rattle.cps_code.proofs.fields.read_registers.Given as goal

abbrev pub invariant-loop-letters : goal.invariant-loop-letters
invariant-loop-letters l = record {
  digits : registers_in (texts (drop l.letters-index l.registers)) (operands_left l.left) l.known ≡ registers_in (texts l.registers) (operands_left l.fn.operands) l.fn.digits;
  octal : AreDigits l.known;
}
