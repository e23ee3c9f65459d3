use Rattle.std.proofs.Common.{◌≡◌, drop}
use Rattle.std.specs.Prelude.{bytes_eq}
use Rattle.cps_text.specs.Text.{capitals}
use Rattle.cps_code.proofs.peripheral_operation.is_named.Given as goal

abbrev pub invariant-loop-letter : goal.invariant-loop-letter
invariant-loop-letter l = bytes_eq (drop l.letter-index l.letters) (capitals l.rest) ≡ bytes_eq l.letters (capitals l.name)
