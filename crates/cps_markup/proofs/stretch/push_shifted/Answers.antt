use Rattle.std.proofs.Common.{[], ◌∷◌}
use Rattle.cps_markup.specs.declared.tag.Tag.TheVariants as tag
use Rattle.cps_markup.specs.Links.{Leads}
use Rattle.cps_markup.specs.Markup.{shifted}
use Rattle.cps_markup.proofs.AddsLemmas.{adds-element, all-none}
use Rattle.cps_markup.proofs.stretch.push_shifted.Goals as goal

pub returns : goal.returns
returns c =
    let P = Leads c.args.targets.now in
    adds-element P tag.Part (shifted c.args.painted.now.shift ∷ []) c.args.code.now [] c.args.page.now.items c.push_shift_opening.new.page.items c.push_painted.new.page.items c.push_closing.new.page.items
    c.in_ok-push_shift_opening.ensures c.in_ok-push_painted.ensures c.in_ok-push_closing.ensures (all-none P)
