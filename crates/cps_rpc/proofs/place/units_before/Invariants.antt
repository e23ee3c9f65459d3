use Rattle.std.proofs.Common.{◌≡◌, min, take}
use Rattle.std.specs.List.{sum_by}
use Rattle.cps_rpc.specs.Positions.{units}
use Rattle.cps_rpc.proofs.place.units_before.Given as goal

abbrev pub invariant-loop-byte : goal.invariant-loop-byte
invariant-loop-byte l = l.units ≡ min (sum_by (units l.encoding) (take l.byte-index l.front)) 4294967295
