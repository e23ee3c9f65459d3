use Rattle.std.proofs.Common.{◌≡◌, ◌+◌, drop}
use Rattle.cps_rpc.specs.Positions.{place_in}
use Rattle.cps_rpc.proofs.place.place_in.Given as goal

abbrev pub invariant-loop-at : goal.invariant-loop-at
invariant-loop-at l = l.at + place_in l.encoding (drop l.at l.line) l.left ≡ place_in l.encoding l.line l.fn.units
