use Rattle.std.proofs.Common.{[], ◌∷◌}
use Rattle.cps_markup.specs.declared.tag.Tag.TheVariants as tag
use Rattle.cps_markup.specs.Links.{Leads}
use Rattle.cps_markup.specs.Markup.{identifier}
use Rattle.cps_markup.proofs.AddsLemmas.{adds-element, all-none}
use Rattle.cps_markup.proofs.rows.push_noted_group.Goals as goal

pub returns : goal.returns
returns c =
    let P = Leads c.args.targets.now in
    adds-element P tag.Row (identifier c.args.place ∷ []) c.args.shown.now.text.now [] c.args.page.now.items c.push_place_opening.new.page.items c.push_row.new.page.items c.push_closing.new.page.items
    c.in_ok-push_place_opening.ensures c.in_ok-push_row.ensures c.in_ok-push_closing.ensures (all-none P)
