use Rattle.std.proofs.Common.{[], ◌∷◌}
use Rattle.cps_markup.specs.declared.place.Place.TheVariants.{Line}
use Rattle.cps_markup.specs.declared.tag.Tag.TheVariants as tag
use Rattle.cps_markup.specs.Links.{Leads}
use Rattle.cps_markup.specs.Markup.{identifier}
use Rattle.cps_markup.proofs.AddsLemmas.{adds-element, all-none}
use Rattle.cps_page.proofs.expansion.push_line.Goals as goal

pub returns : goal.returns
returns c =
    let P = Leads c.args.targets.now in
    let rows = c.args.rows.now in
    adds-element P tag.Row (identifier (Line rows.line) ∷ []) rows.text.now [] c.args.page.now.items c.push_opening.new.page.items c.push_rows_of.new.page.items c.push_closing.new.page.items
    c.in_ok-push_opening.ensures c.in_ok-push_rows_of.ensures c.in_ok-push_closing.ensures (all-none P)
