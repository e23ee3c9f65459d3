use Rattle.std.proofs.Common.{◌-◌, ◌≤◌}
use Rattle.cps_page.specs.Code.Making.{AddsLines}
use Rattle.cps_page.proofs.listing.push_run_lines.Given as goal

-- the lines of the range up to here are added
abbrev pub invariant-loop-before : goal.invariant-loop-before
invariant-loop-before g l = (l.before ≤ l.range.end) × AddsLines l.targets (g.V.View.assembly l.view) l.range.begin l.before l.fn.page.items l.page.items

abbrev pub decreases-loop-before : goal.decreases-loop-before
decreases-loop-before g l = l.range.end - l.before
