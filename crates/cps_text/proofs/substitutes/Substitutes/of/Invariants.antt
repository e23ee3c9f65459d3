use Rattle.std.proofs.Common.{◌≡◌, take}
use Rattle.cps_text.specs.Insertion.{pairs_value}
use Rattle.cps_text.proofs.substitutes.Substitutes.of.Given as goal

abbrev pub invariant-loop-pair : goal.invariant-loop-pair
invariant-loop-pair l = l.known ≡ pairs_value (take l.pair-index l.arguments)
