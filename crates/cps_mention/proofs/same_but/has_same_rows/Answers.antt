use Rattle.std.proofs.Common.{map, sym, ap, ◌∙◌}
use Rattle.cps_mention.specs.SameBut.{untexted, untexted_rows}
use Rattle.cps_mention.proofs.SameButLemmas.{same-next}
use Rattle.cps_mention.proofs.same_but.has_same_rows.Goals as goal

pub loop-done-preserved : goal.loop-done-preserved
loop-done-preserved g c =
    let was = (g.V.View.assembly c.args.before.now).outcomes in
    let now = (g.W.View.assembly c.args.after.now).outcomes in
    let rows =
    sym (ap (map untexted) c.rows-in-loop-done.ensures)
    ∙ c.are_same_rows.ensures c.if-not-are_same_rows.false
    ∙ ap (map untexted) c.rows.ensures in
    same-next untexted_rows was now c.loop-done.done _ _ c.in-Some.ensures.outcome c.in-Some-outcome.ensures.outcome rows c.loop-done.invariant
