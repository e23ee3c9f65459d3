use Rattle.std.proofs.Common.{◌≡◌, take}
use Rattle.cps_text.specs.Symbol.{padded}
use Rattle.cps_text.specs.Text.{capitals}
use Rattle.cps_text.proofs.name.padded.Given as goal

abbrev pub invariant-loop-i : goal.invariant-loop-i
invariant-loop-i l = l.bytes ≡ padded (capitals (take l.i l.text))
