use Rattle.std.proofs.Common.{ℕ, List, drop}
use Rattle.cps_markup.specs.Links.{Leads}
use Rattle.cps_markup.specs.Code.Adding.{Adds}
use Rattle.cps_page.specs.Code.Making.{symbols_among}
use Rattle.cps_page.proofs.sections.push_symbols.Given as goal

-- what adds the rows left adds all rows
abbrev pub invariant-loop-entry : goal.invariant-loop-entry
invariant-loop-entry l = (last : List ℕ) → Adds (Leads l.targets) l.rest (symbols_among (drop l.entry-index l.targets.entries.items)) l.page.items last
    → Adds (Leads l.targets) l.text (symbols_among l.targets.entries.items) l.fn.page.items last
