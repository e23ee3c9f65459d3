use Rattle.std.proofs.Common.{◌≡◌, ℕ, ◌<◌, ◌≤◌, false}
use Rattle.cps_list.specs.Assembly.{Assembly}
use Rattle.cps_compare.specs.ListedSides.{ListedSides, listed_findings}
use Rattle.cps_compare.specs.Code.Kept.{AreListed}
use Rattle.cps_compare.proofs.listed_sides.ListedSides.gives_some.Given as goal

abbrev pub invariant-loop-address : goal.invariant-loop-address
invariant-loop-address l = (assembly : Assembly) (sides : ListedSides) → AreListed l.self assembly sides
    → (other : ℕ) → l.fn.span.low ≤ other → other < l.address → (listed_findings sides).is_given other ≡ false
