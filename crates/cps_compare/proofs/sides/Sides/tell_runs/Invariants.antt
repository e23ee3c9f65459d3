use Rattle.std.proofs.Common.{◌≡◌, ◌+◌, ◌++◌, [], length, flat_map}
use Rattle.std.specs.List.{slice_split}
use Rattle.std.specs.Option.{option_map_or}
use Rattle.cps_compare.specs.Findings.{Findings}
use Rattle.cps_compare.specs.Runs.{run_rows}
use Rattle.cps_compare.specs.Code.Kept.{AreKept}
use Rattle.cps_compare.specs.Code.Runs.{ends_run, addresses_in}
use Rattle.cps_compare.proofs.sides.Sides.tell_runs.Given as goal

abbrev pub invariant-loop-rest : goal.invariant-loop-rest
invariant-loop-rest g l = (found : Findings) → AreKept l.self (g.V.View.assembly l.view) found
    → l.telling.text.items
    ++ flat_map (λ run. run_rows found l.all (addresses_in run)) (option_map_or (λ rest. slice_split ends_run rest.now) l.rest [])
    ≡ l.fn.telling.text.items ++ flat_map (λ run. run_rows found l.all (addresses_in run)) (slice_split ends_run l.words)

abbrev pub decreases-loop-rest : goal.decreases-loop-rest
decreases-loop-rest g l = option_map_or (λ rest. length rest.now + 1) l.rest 0
