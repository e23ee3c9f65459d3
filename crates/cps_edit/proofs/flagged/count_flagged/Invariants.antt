use Rattle.std.proofs.Common.{◌≡◌, ◌≤◌, ◌+◌, drop}
use Rattle.cps_list.specs.Flagged.{flagged_in}
use Rattle.cps_edit.proofs.flagged.count_flagged.Given as goal

abbrev pub invariant-loop-outcome : goal.invariant-loop-outcome
invariant-loop-outcome l = record { count : l.count + flagged_in (drop l.outcome-index l.outcomes) ≡ flagged_in l.outcomes; within : l.count ≤ l.outcome-index }
