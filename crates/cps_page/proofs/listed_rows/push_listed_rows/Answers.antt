use Rattle.std.proofs.Common.{[]}
use Rattle.cps_markup.specs.Links.{Leads}
use Rattle.cps_markup.proofs.AddsLemmas.{adds-before}
use Rattle.cps_page.proofs.listed_rows.push_listed_rows.Goals as goal

pub returns : goal.returns
returns c = adds-before (Leads c.args.targets.now) _ [] c.args.page.now.items c.push_each.new.page.items c.push_causes.new.page.items c.in_ok-push_each.ensures c.in_ok-push_causes.ensures
