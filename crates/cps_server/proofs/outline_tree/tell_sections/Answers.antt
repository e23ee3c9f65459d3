use Rattle.std.proofs.Common.{List, subst, sym}
use Rattle.serde_json.specs.declared.value.Value.{Value}
use Rattle.cps_server.specs.Code.Outlining.{AddsSections}
use Rattle.cps_server.proofs.OutlineLemmas.{sections-none, sections-one}
use Rattle.cps_server.proofs.outline_tree.tell_sections.Goals as goal

pub loop-at-init : goal.loop-at-init
loop-at-init c =
    subst (λ (told : List Value). AddsSections c.args.rows.now.items c.args.rows.now.items told) (sym c.new-told.ensures.items) (sections-none c.args.rows.now.items c.requires)

pub take_rows-requires : goal.take_rows-requires
take_rows-requires c = c.loop-at.invariant.placed

pub loop-at-preserved : goal.loop-at-preserved
loop-at-preserved c =
    let old = c.args.rows.now.items in
    let left = c.take_rows.new.rows.items in
    subst (λ (told : List Value). AddsSections old left told) (sym c.in_ok-push.ensures.items)
    (sections-one _ _ old c.loop-at.rows.items left c.loop-at.told.items c.in_ok-taken.taken.items c.in_ok-tell_section.field-0 c.loop-at.invariant c.in_ok-taken.ensures c.in_ok-tell_section.ensures)
