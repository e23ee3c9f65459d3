use Rattle.std.proofs.Common.{[]}
use Rattle.cps_markup.specs.Links.{Leads}
use Rattle.cps_markup.specs.Code.Adding.{Adds}
use Rattle.cps_page.proofs.tables.push_others.Given as goal

-- nothing is said yet
abbrev pub invariant-loop-block : goal.invariant-loop-block
invariant-loop-block l = Adds (Leads l.memory.targets.now) [] [] l.fn.page.items l.page.items
