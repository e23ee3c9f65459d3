use Rattle.std.proofs.Common.{Bool, [], ◌++◌, append-nil, refl, subst}
use Rattle.cps_list.specs.ListingText.{listing_from, open_row}
use Rattle.cps_markup.specs.Links.{Leads}
use Rattle.cps_markup.specs.Code.Adding.{Adds}
use Rattle.cps_markup.proofs.AddsLemmas.{adds-joined}
use Rattle.cps_page.specs.Code.Making.{lines_from}
use Rattle.cps_page.proofs.PageLemmas.{adds-same}
use Rattle.cps_page.proofs.listing.push_listing.Goals as goal

pub returns : goal.returns
returns g c =
    let source = g.V.View.assembly c.args.view.now in
    let P = Leads c.args.targets.now in
    let lines = lines_from 1 source.lines in
    let rows = listing_from 1 source.lines source.outcomes in
    let middle = c.push_lines.new.page.items in
    let last = c.push_open_row.new.page.items in
    adds-same P (rows ++ open_row source.is_open) (rows ++ open_row source.is_open) (lines ++ []) lines c.args.page.now.items last refl (append-nil lines)
    (adds-joined P rows (open_row source.is_open) lines [] c.args.page.now.items middle last c.in_ok-push_lines.ensures
    (subst (λ (is_open : Bool). Adds P (open_row is_open) [] middle last) c.open_at_end.ensures c.in_ok-push_open_row.ensures))
