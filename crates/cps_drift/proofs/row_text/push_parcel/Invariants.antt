use Rattle.cps_drift.specs.Code.Rows.{StaysPlain}
use Rattle.cps_drift.proofs.row_text.push_parcel.Given as goal

abbrev pub invariant-loop-behind : goal.invariant-loop-behind
invariant-loop-behind l = StaysPlain l.fn.row.items l.row.items
