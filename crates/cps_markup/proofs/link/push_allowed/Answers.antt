use Rattle.std.proofs.Common.{[], ◌∷◌}
use Rattle.cps_markup.specs.declared.tag.Tag.TheVariants as tag
use Rattle.cps_markup.specs.Links.{Leads}
use Rattle.cps_markup.specs.Markup.{target}
use Rattle.cps_markup.proofs.AddsLemmas.{adds-element, adds-text, all-one}
use Rattle.cps_markup.proofs.link.push_allowed.Goals as goal

pub returns : goal.returns
returns c =
    let P = Leads c.args.targets.now in
    let words = c.args.words.now in
    adds-element P tag.Link (target c.args.place ∷ []) words [] c.args.page.now.items c.push_link_opening.new.page.items c.push_text.new.page.items c.push_closing.new.page.items
    c.in_ok-push_link_opening.ensures (adds-text P words _ _ c.in_ok-push_text.ensures) c.in_ok-push_closing.ensures (all-one P _ c.requires)
