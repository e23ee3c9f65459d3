use Rattle.std.proofs.Common.{◌≡◌, drop}
use Rattle.cps_server.specs.Hovers.{first_definition}
use Rattle.cps_server.proofs.hovering.first_definition.Given as goal

-- the first is among those that are left
abbrev pub invariant-loop-spot : goal.invariant-loop-spot
invariant-loop-spot l = first_definition (drop l.spot-index l.spots) ≡ first_definition l.spots
