use Rattle.std.proofs.Common.{◌≡◌, ◌++◌, [], drop}
use Rattle.cps_compare.specs.Statements.{texts_from}
use Rattle.cps_compare.specs.Told.{statement_rows}
use Rattle.cps_compare.proofs.statements.push_statements.Given as goal

abbrev pub invariant-loop-row : goal.invariant-loop-row
invariant-loop-row l =
    l.text.items ++ statement_rows l.last (texts_from l.address l.statement (drop l.row-index l.rows))
    ≡ l.fn.text.items ++ statement_rows [] (texts_from l.address [] l.rows)
