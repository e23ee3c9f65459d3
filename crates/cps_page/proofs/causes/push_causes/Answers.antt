use Rattle.std.proofs.Common.{[]}
use Rattle.cps_markup.specs.Links.{Leads}
use Rattle.cps_markup.proofs.AddsLemmas.{adds-joined, adds-nothing}
use Rattle.cps_page.proofs.causes.push_causes.Goals as goal

pub loop-init : goal.loop-init
loop-init c = adds-nothing (Leads c.args.targets.now) c.args.page.now.items

pub loop-preserved : goal.loop-preserved
loop-preserved c = adds-joined (Leads c.args.targets.now) [] [] [] [] c.args.page.now.items c.loop.page.items _ c.loop.invariant c.in_ok-push_cause.ensures
