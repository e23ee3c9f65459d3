use Rattle.std.proofs.Common.{ℕ, List, [], length}
use Rattle.cps_markup.specs.Links.{Leads}
use Rattle.cps_markup.specs.Code.Adding.{Adds}
use Rattle.cps_page.proofs.listed_rows.push_each.Given as goal

-- what says the rest says the whole
abbrev pub invariant-loop-statement : goal.invariant-loop-statement
invariant-loop-statement l = (last : List ℕ) → Adds (Leads l.targets) l.rest [] l.page.items last → Adds (Leads l.targets) l.rows.text.now [] l.fn.page.items last

abbrev pub decreases-loop-statement : goal.decreases-loop-statement
decreases-loop-statement l = length l.rest
