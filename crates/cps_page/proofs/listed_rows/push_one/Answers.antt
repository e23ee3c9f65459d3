use Rattle.std.proofs.Common.{[]}
use Rattle.cps_markup.specs.Links.{Leads}
use Rattle.cps_markup.proofs.AddsLemmas.{adds-before}
use Rattle.cps_page.proofs.listed_rows.push_one.Goals as goal

pub returns : goal.returns
returns c = adds-before (Leads c.args.targets.now) _ [] c.args.page.now.items c.push_told.new.page.items c.push_causes.new.page.items c.in_ok-push_told.ensures c.in_ok-push_causes.ensures
