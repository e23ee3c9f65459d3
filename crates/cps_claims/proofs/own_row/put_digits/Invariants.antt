use Rattle.std.proofs.Common.{◌≡◌, take, not}
use Rattle.std.specs.List.{filter}
use Rattle.cps_claims.specs.Parts.{is_blank}
use Rattle.cps_claims.proofs.own_row.put_digits.Given as goal

abbrev pub invariant-loop-byte : goal.invariant-loop-byte
invariant-loop-byte l = l.digits.items ≡ filter (λ byte. not (is_blank byte)) (take l.byte-index l.code)
