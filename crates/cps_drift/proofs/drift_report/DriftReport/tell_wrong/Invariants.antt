use Rattle.cps_drift.specs.Drift.{IsDriftText}
use Rattle.cps_drift.proofs.drift_report.DriftReport.tell_wrong.Given as goal

abbrev pub invariant-loop-part : goal.invariant-loop-part
invariant-loop-part l = IsDriftText l.self.text.items
