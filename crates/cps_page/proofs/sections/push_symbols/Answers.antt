use Rattle.std.proofs.Common.{◌<◌, List, [], ◌∷◌, ap, subst, drop, get_or, length, arith}
use Rattle.cps_markup.specs.declared.place.Place.TheVariants.{Symbol}
use Rattle.cps_markup.specs.declared.targets.Entry.{Entry}
use Rattle.cps_markup.specs.Links.{Leads}
use Rattle.cps_markup.specs.Code.Adding.{Adds}
use Rattle.cps_page.specs.Code.Making.{symbols_among}
use Rattle.cps_page.proofs.PageLemmas.{adds-front, adds-symbol}
use Rattle.cps_page.proofs.sections.push_symbols.Goals as goal

pub loop-entry-preserved : goal.loop-entry-preserved
loop-entry-preserved c = λ last later.
    let P = Leads c.args.targets.now in
    let d : Entry = record { name = record { bytes = [] }; line = 0 } in
    let entries = c.args.targets.now.entries.items in
    let i = c.loop-entry.entry-index in
    let row = c.split_at-in-loop-entry.result.0.now in
    let begun = c.loop-entry.page.items in
    let old = c.push_rows.new.page.items in
    let new = c.push_group.new.page.items in
    let same = c.deref-entry-items.ensures.value in
    let within : i < length entries = omega (arith, ap length same, c.loop-entry-test.true) in
    let pushed = subst (λ (es : List Entry). Adds P row (Symbol (get_or es i d).name ∷ []) old new) same c.in_ok-push_group.ensures in
    c.loop-entry.invariant last
    (adds-front P c.length_before.result c.loop-entry.rest.now c.split_at.result.0.now c.split_at.result.1.now (symbols_among (drop i entries)) begun old last
    c.split_at.ensures.front c.split_at.ensures.back c.in_ok-push_rows.ensures
    (adds-symbol P entries i c.row_length.result d c.split_at.result.1.now row c.split_at-in-loop-entry.result.1.now old new last within c.split_at-in-loop-entry.ensures.front c.split_at-in-loop-entry.ensures.back pushed later))
