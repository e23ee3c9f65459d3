use Rattle.cps_drift.specs.Code.Rows.{StaysPlain}
use Rattle.cps_drift.proofs.laid_codes.LaidCodes.push_parcels.Given as goal

abbrev pub invariant-loop-parcel : goal.invariant-loop-parcel
invariant-loop-parcel l = StaysPlain l.fn.row.items l.row.items
