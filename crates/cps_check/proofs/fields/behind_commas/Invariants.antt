use Rattle.std.proofs.Common.{◌≡◌, take}
use Rattle.std.specs.Prelude.{flat_map}
use Rattle.cps_code.specs.Code.Operations.{texts}
use Rattle.cps_check.specs.Code.Kept.{after_comma}
use Rattle.cps_check.proofs.fields.behind_commas.Given as goal

abbrev pub invariant-loop-letters : goal.invariant-loop-letters
invariant-loop-letters l = l.text.items ≡ flat_map after_comma (texts (take l.letters-index l.registers))
