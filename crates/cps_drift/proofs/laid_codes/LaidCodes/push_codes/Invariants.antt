use Rattle.cps_drift.specs.Code.Rows.{StaysPlain}
use Rattle.cps_drift.proofs.laid_codes.LaidCodes.push_codes.Given as goal

abbrev pub invariant-loop-code : goal.invariant-loop-code
invariant-loop-code l = StaysPlain l.fn.row.items l.row.items
