use Rattle.std.proofs.Common.{[]}
use Rattle.cps_markup.specs.Links.{Leads}
use Rattle.cps_markup.proofs.AddsLemmas.{adds-joined, adds-nothing}
use Rattle.cps_page.proofs.tables.push_others.Goals as goal

pub loop-block-init : goal.loop-block-init
loop-block-init c = adds-nothing (Leads c.args.memory.now.targets.now) c.args.page.now.items

pub loop-block-preserved : goal.loop-block-preserved
loop-block-preserved c = adds-joined (Leads c.args.memory.now.targets.now) [] [] [] [] c.args.page.now.items c.loop-block.page.items _ c.loop-block.invariant c.in_ok-push_note.ensures
