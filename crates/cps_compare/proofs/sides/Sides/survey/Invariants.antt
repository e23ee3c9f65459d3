use Rattle.std.proofs.Common.{◌+◌, ◌-◌, ◌≤◌}
use Rattle.std.specs.List.{range_with_len}
use Rattle.cps_list.specs.Assembly.{Assembly}
use Rattle.cps_compare.specs.Findings.{Findings}
use Rattle.cps_compare.specs.Code.Kept.{AreKept}
use Rattle.cps_compare.specs.Code.Surveys.{AreFew, ListsAndCounts}
use Rattle.cps_compare.proofs.sides.Sides.survey.Given as goal

abbrev pub invariant-loop-address : goal.invariant-loop-address
invariant-loop-address l = record {
  few : AreFew l.tallies (l.address - l.fn.span.low);
  within : l.address - l.fn.span.low ≤ l.fn.span.high + 1 - l.fn.span.low;
  survey : (assembly : Assembly) (found : Findings) → AreKept l.self assembly found → ListsAndCounts found (range_with_len l.fn.span.low (l.address - l.fn.span.low)) l.words.items l.tallies;
}
