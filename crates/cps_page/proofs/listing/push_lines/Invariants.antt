use Rattle.std.proofs.Common.{◌-◌, length}
use Rattle.cps_page.specs.Code.Making.{AddsLines}
use Rattle.cps_page.proofs.listing.push_lines.Given as goal

-- the lines up to here are added
abbrev pub invariant-loop-begin : goal.invariant-loop-begin
invariant-loop-begin g l = AddsLines l.targets (g.V.View.assembly l.view) 0 l.begin l.fn.page.items l.page.items

abbrev pub decreases-loop-begin : goal.decreases-loop-begin
decreases-loop-begin g l = length (g.V.View.assembly l.view).lines - l.begin
