use Rattle.std.proofs.Common.{◌≡◌, ℕ, ◌≤◌, false}
use Rattle.cps_list.specs.Assembly.{Assembly}
use Rattle.cps_compare.specs.ListedSides.{ListedSides, listed_findings}
use Rattle.cps_compare.specs.Code.Kept.{AreListed}
use Rattle.cps_compare.proofs.listed_sides.ListedSides.last_compared.Given as goal

abbrev pub invariant-loop-address : goal.invariant-loop-address
invariant-loop-address l = (assembly : Assembly) (sides : ListedSides) → AreListed l.self assembly sides
    → (other : ℕ) → l.address ≤ other → (listed_findings sides).is_compared other ≡ false
