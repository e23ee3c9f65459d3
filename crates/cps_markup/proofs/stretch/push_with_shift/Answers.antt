use Rattle.cps_markup.specs.Links.{Leads}
use Rattle.cps_markup.proofs.AddsLemmas.{adds-cut}
use Rattle.cps_markup.proofs.stretch.push_with_shift.Goals as goal

pub returns : goal.returns
returns c =
    let P = Leads c.args.targets.now in
    let later = adds-cut P _ c.split_at.result.1.now _ _ _ _ c.push_painted-2.new.page.items c.split_at-2.ensures.front c.split_at-2.ensures.back c.in_ok-push_shifted.ensures c.in_ok-push_painted-2.ensures in
    adds-cut P _ c.args.front.now _ _ _ _ c.push_painted-2.new.page.items c.split_at.ensures.front c.split_at.ensures.back c.in_ok-push_painted.ensures later
