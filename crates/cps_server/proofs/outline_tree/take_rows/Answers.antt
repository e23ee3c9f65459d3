use Rattle.std.proofs.Common.{◌++◌, ◌∷◌, [], List, refl, subst, sym}
use Rattle.serde_json.specs.declared.value.Value.{Value}
use Rattle.cps_server.specs.declared.outline_row.OutlineRow.{OutlineRow}
use Rattle.cps_server.specs.Code.Outlining.{TakesRows}
use Rattle.cps_server.proofs.OutlineLemmas.{take-one}
use Rattle.cps_server.proofs.outline_tree.take_rows.Goals as goal

pub loop-row-preserved : goal.loop-row-preserved
loop-row-preserved c =
    let first = c.args.first in
    let end = c.args.end in
    let old = c.args.rows.now.items in
    let rest = c.pop.new.self.items in
    let row = c.in-Some.row in
    let taken = c.loop-row.taken.items in
    let json = c.into_json.result in
    let between = c.if-not-is_between.ensures refl in
    let here : TakesRows first end old (rest ++ row ∷ []) taken = subst (λ (rows : List OutlineRow). TakesRows first end old rows taken) c.in-Some.ensures.items c.loop-row.invariant in
    subst (λ (told : List Value). TakesRows first end old rest told) (sym c.in_ok-push-2.ensures.items)
    (take-one first end old rest taken row json here between.0 between.1 c.into_json.ensures)
