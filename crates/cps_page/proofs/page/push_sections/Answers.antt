use Rattle.std.proofs.Common.{ℕ, List, [], subst, ◌∙◌}
use Rattle.cps_markup.specs.declared.place.PageSection.TheVariants as page
use Rattle.cps_page.specs.Code.Making.{AddsSection, symbols_among, words_among}
use Rattle.cps_page.proofs.PageLemmas.{adds-sections}
use Rattle.cps_page.proofs.page.push_sections.Goals as goal

pub returns : goal.returns
returns g c =
    let targets = c.args.making.now.targets.now in
    let begun = c.push_memory_section.new.page.items in
    let listed = c.push_listing_section.new.page.items in
    let worded = c.push_word_section.new.page.items in
    let symboled = c.push_symbol_section.new.page.items in
    let flagged = c.push_flag_section.new.page.items in
    adds-sections targets (g.V.View.assembly c.args.view.now) c.args.page.now.items begun listed worded symboled flagged c.push_instruction_section.new.page.items
    c.in_ok-push_memory_section.ensures
    c.in_ok-push_listing_section.ensures
    (subst (λ (text : List ℕ). AddsSection targets page.Words text (words_among targets.words.items) listed worded) c.requires c.in_ok-push_word_section.ensures)
    (subst (λ (text : List ℕ). AddsSection targets page.Symbols text (symbols_among targets.entries.items) worded symboled) (c.deref.ensures.value ∙ c.in_ok-symbols.ensures) c.in_ok-push_symbol_section.ensures)
    (subst (λ (text : List ℕ). AddsSection targets page.Flags text [] symboled flagged) (c.deref-2.ensures.value ∙ c.in_ok-flags.ensures) c.in_ok-push_flag_section.ensures)
    c.in_ok-push_instruction_section.ensures
