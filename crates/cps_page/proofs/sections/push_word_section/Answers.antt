use Rattle.cps_markup.specs.declared.place.PageSection.TheVariants as page
use Rattle.cps_page.proofs.PageLemmas.{adds-section}
use Rattle.cps_page.proofs.sections.push_word_section.Goals as goal

pub returns : goal.returns
returns g c =
    adds-section c.args.targets.now page.Words _ _ c.args.page.now.items c.push_begin.new.page.items c.push_heading.new.page.items c.push_words.new.page.items c.push_closing.new.page.items
    c.in_ok-push_begin.ensures c.in_ok-push_heading.ensures c.in_ok-push_words.ensures c.in_ok-push_closing.ensures
