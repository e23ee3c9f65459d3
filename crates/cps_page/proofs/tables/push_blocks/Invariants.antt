use Rattle.std.proofs.Common.{ℕ, List, [], drop}
use Rattle.cps_markup.specs.Links.{Leads}
use Rattle.cps_markup.specs.Code.Adding.{Adds}
use Rattle.cps_page.specs.Code.Making.{blocks_among}
use Rattle.cps_page.proofs.tables.push_blocks.Given as goal

-- what adds the blocks left adds all blocks
abbrev pub invariant-loop-name : goal.invariant-loop-name
invariant-loop-name l = (last : List ℕ) → Adds (Leads l.targets) [] (blocks_among (drop l.name-index l.targets.blocks.items)) l.page.items last
    → Adds (Leads l.targets) [] (blocks_among l.targets.blocks.items) l.fn.page.items last
