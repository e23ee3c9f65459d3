use Rattle.std.proofs.Common.{[]}
use Rattle.cps_markup.specs.declared.place.PageSection.TheVariants as page
use Rattle.cps_markup.specs.Links.{Leads}
use Rattle.cps_markup.proofs.AddsLemmas.{adds-joined}
use Rattle.cps_page.specs.Code.Making.{blocks_among}
use Rattle.cps_page.proofs.PageLemmas.{adds-section}
use Rattle.cps_page.proofs.sections.push_memory_section.Goals as goal

pub returns : goal.returns
returns g c =
    let targets = c.args.targets.now in
    let places = blocks_among targets.blocks.items in
    let begun = c.push_begin.new.page.items in
    let headed = c.push_heading.new.page.items in
    let summed = c.push_summary.new.page.items in
    let told = c.push_blocks.new.page.items in
    adds-section targets page.Memory [] places c.args.page.now.items begun headed told c.push_closing.new.page.items
    c.in_ok-push_begin.ensures c.in_ok-push_heading.ensures (adds-joined (Leads targets) [] [] [] places headed summed told c.in_ok-push_summary.ensures c.in_ok-push_blocks.ensures)
    c.in_ok-push_closing.ensures
