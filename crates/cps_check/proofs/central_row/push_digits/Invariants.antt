use Rattle.std.proofs.Common.{◌≡◌, ◌++◌, take}
use Rattle.std.specs.Prelude.{map}
use Rattle.cps_check.specs.Central.{code_character}
use Rattle.cps_check.proofs.central_row.push_digits.Given as goal

abbrev pub invariant-loop-letter : goal.invariant-loop-letter
invariant-loop-letter l = l.text.items ≡ l.fn.text.items ++ map (code_character l.f) (take l.letter-index l.digits)
