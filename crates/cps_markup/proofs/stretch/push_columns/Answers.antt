use Rattle.cps_markup.specs.Links.{Leads}
use Rattle.cps_markup.proofs.AddsLemmas.{adds-cut}
use Rattle.cps_markup.proofs.stretch.push_columns.Goals as goal

pub returns : goal.returns
returns c =
    let P = Leads c.args.targets.now in
    adds-cut P c.front_width-width.result c.args.text.now _ _ _ _ c.push_painted.new.page.items c.split_at.ensures.front c.split_at.ensures.back c.in_ok-push_front.ensures c.in_ok-push_painted.ensures
