-- For the code, not part of what a reader believes: spots whose stretches are found.
use Rattle.std.specs.Prelude.{List, Contains, map}
use Rattle.cps_mention.specs.declared.spot.Spot.{Spot}
use Rattle.cps_mention.specs.declared.stretch.Stretch.{Stretch}

-- the stretches of spots
abbrev pub stretches_of : List Spot → List Stretch
stretches_of spots = map (λ spot. spot.stretch) spots

-- one of these spots has the stretch of a spot
abbrev pub IsFound : List Spot → Spot → Type 0
IsFound spots spot = Contains (stretches_of spots) spot.stretch
