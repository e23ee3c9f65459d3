use Rattle.cps_markup.specs.Links.{Leads}
use Rattle.cps_markup.proofs.AddsLemmas.{adds-fold}
use Rattle.cps_page.proofs.expansion.push_fold.Goals as goal

pub returns : goal.returns
returns c =
    adds-fold (Leads c.args.targets.now) _ c.args.rows.now.text.now c.args.page.now.items c.push_fold_opening.new.page.items c.push_folded.new.page.items c.push_closing.new.page.items
    c.in_ok-push_fold_opening.ensures c.in_ok-push_folded.ensures c.in_ok-push_closing.ensures
