use Rattle.std.proofs.Common.{◌≡◌, drop}
use Rattle.cps_expr.specs.Same.{is_same}
use Rattle.cps_expr.proofs.text.is_same.Given as goal

abbrev pub invariant-loop-byte : goal.invariant-loop-byte
invariant-loop-byte l = is_same l.rest (drop l.byte-index l.other) ≡ is_same l.text l.other
