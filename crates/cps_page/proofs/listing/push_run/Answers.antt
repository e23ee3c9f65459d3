use Rattle.cps_page.proofs.PageLemmas.{lines-run}
use Rattle.cps_page.proofs.listing.push_run.Goals as goal

pub returns : goal.returns
returns g c =
    lines-run c.args.targets.now (g.V.View.assembly c.args.view.now) c.args.range.begin c.args.range.end c.run_style-style.result c.count_rows-rows.result c.args.page.now.items
    c.push_opening.new.page.items c.push_run_lines.new.page.items c.push_closing.new.page.items c.in_ok-push_opening.ensures c.in_ok-push_run_lines.ensures c.in_ok-push_closing.ensures
