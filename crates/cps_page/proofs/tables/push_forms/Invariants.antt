use Rattle.std.proofs.Common.{[]}
use Rattle.cps_markup.specs.Links.{Leads}
use Rattle.cps_markup.specs.Code.Adding.{Adds}
use Rattle.cps_page.proofs.tables.push_forms.Given as goal

-- nothing is said yet
abbrev pub invariant-loop : goal.invariant-loop
invariant-loop l = Adds (Leads l.targets) [] [] l.fn.page.items l.page.items
