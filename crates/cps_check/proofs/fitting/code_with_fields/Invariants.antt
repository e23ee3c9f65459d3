use Rattle.std.proofs.Common.{◌≡◌, take}
use Rattle.std.specs.Prelude.{map}
use Rattle.cps_check.specs.Codes.{coded_character}
use Rattle.cps_check.proofs.fitting.code_with_fields.Given as goal

abbrev pub invariant-loop-letter : goal.invariant-loop-letter
invariant-loop-letter l = l.code.items ≡ map (coded_character l.f l.letters l.given) (take l.letter-index l.letters)
