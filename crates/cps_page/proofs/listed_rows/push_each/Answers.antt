use Rattle.std.proofs.Common.{rules}
use Rattle.cps_markup.specs.Links.{Leads}
use Rattle.cps_markup.proofs.AddsLemmas.{adds-cut, adds-end}
use Rattle.cps_page.proofs.listed_rows.push_each.Goals as goal

pub loop-statement-preserved : goal.loop-statement-preserved
loop-statement-preserved c = λ last later.
    c.loop-statement.invariant last (adds-cut (Leads c.args.targets.now) c.row_length.result c.loop-statement.rest.now _ _ _ _ last c.split_at.ensures.front c.split_at.ensures.back c.in_ok-push_one.ensures later)

pub returns : goal.returns
returns c = c.loop-statement.invariant c.loop-statement.page.items (adds-end (Leads c.args.targets.now) c.loop-statement.rest.now c.loop-statement.page.items (search rules))
