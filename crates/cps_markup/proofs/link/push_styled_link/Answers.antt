use Rattle.std.proofs.Common.{[], ◌∷◌}
use Rattle.cps_markup.specs.declared.tag.Tag.TheVariants as tag
use Rattle.cps_markup.specs.Links.{Leads}
use Rattle.cps_markup.specs.Markup.{styled}
use Rattle.cps_markup.proofs.AddsLemmas.{adds-element, all-none}
use Rattle.cps_markup.proofs.link.push_styled_link.Goals as goal

pub returns : goal.returns
returns c =
    let P = Leads c.args.targets.now in
    let words = c.args.words.now in
    adds-element P tag.Part (styled c.args.style ∷ []) words [] c.args.page.now.items c.push_part_opening.new.page.items c.push_link.new.page.items c.push_closing.new.page.items
    c.in_ok-push_part_opening.ensures c.in_ok-push_link.ensures c.in_ok-push_closing.ensures (all-none P)
