use Rattle.std.proofs.Common.{◌<◌, List, [], ◌∷◌, ap, subst, get_or, length, arith}
use Rattle.cps_text.specs.declared.name.Name.{Name}
use Rattle.cps_markup.specs.declared.place.Place.TheVariants.{Block}
use Rattle.cps_markup.specs.Links.{Leads}
use Rattle.cps_markup.specs.Code.Adding.{Adds}
use Rattle.cps_page.proofs.PageLemmas.{adds-block}
use Rattle.cps_page.proofs.tables.push_blocks.Goals as goal

pub loop-name-preserved : goal.loop-name-preserved
loop-name-preserved c = λ last later.
    let P = Leads c.args.targets.now in
    let d : Name = record { bytes = [] } in
    let names = c.args.targets.now.blocks.items in
    let i = c.loop-name.name-index in
    let begun = c.loop-name.page.items in
    let old = c.push_others.new.page.items in
    let new = c.push_named.new.page.items in
    let same = c.deref-name-items.ensures.value in
    let within : i < length names = omega (arith, ap length same, c.loop-name-test.true) in
    let pushed = subst (λ (ns : List Name). Adds P [] (Block (get_or ns i d) ∷ []) old new) same c.in_ok-push_named.ensures in
    c.loop-name.invariant last (adds-block P names i d begun old new last within c.in_ok-push_others.ensures pushed later)
