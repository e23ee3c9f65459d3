use Rattle.cps_markup.specs.Links.{Leads}
use Rattle.cps_markup.proofs.AddsLemmas.{adds-cut}
use Rattle.cps_page.proofs.expansion.push_folded.Goals as goal

pub returns : goal.returns
returns c =
    adds-cut (Leads c.args.targets.now) c.row_length.result c.args.rows.now.text.now _ _ c.args.page.now.items c.push_summary.new.page.items c.push_listed_rows.new.page.items
    c.split_at.ensures.front c.split_at.ensures.back c.in_ok-push_summary.ensures c.in_ok-push_listed_rows.ensures
