use Rattle.std.proofs.Common.{◌≡◌, map, take}
use Rattle.cps_mention.specs.SameBut.{untexted_rows}
use Rattle.cps_mention.proofs.same_but.has_same_rows.Given as goal

abbrev pub invariant-loop-done : goal.invariant-loop-done
invariant-loop-done g l =
    map untexted_rows (take l.done (g.W.View.assembly l.after).outcomes) ≡ map untexted_rows (take l.done (g.V.View.assembly l.before).outcomes)
