use Rattle.cps_server.specs.Code.Outlining.{TakesRows}
use Rattle.cps_server.proofs.outline_tree.take_rows.Given as goal

abbrev pub invariant-loop-row : goal.invariant-loop-row
invariant-loop-row l = TakesRows l.first l.end l.initial.rows.items l.rows.items l.taken.items
