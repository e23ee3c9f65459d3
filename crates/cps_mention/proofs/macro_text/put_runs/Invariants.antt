use Rattle.std.proofs.Common.{◌≡◌, ◌++◌, ◌≤◌, ◌-◌, length}
use Rattle.cps_text.specs.Insertion.{is_of_run}
use Rattle.cps_text.specs.Line.{longest_line}
use Rattle.cps_text.specs.Runs.{runs}
use Rattle.cps_mention.specs.Code.MacroNames.{lists_of, origins_from}
use Rattle.cps_mention.proofs.macro_text.put_runs.Given as goal

abbrev pub invariant-loop-rest : goal.invariant-loop-rest
invariant-loop-rest l =
    (length l.rest ≤ length l.body)
    × (length l.body ≤ longest_line
    → l.origins.items ++ origins_from l.names (lists_of l.arguments) l.line (length l.body - length l.rest) (runs is_of_run l.rest)
    ≡ origins_from l.names (lists_of l.arguments) l.line 0 (runs is_of_run l.body))

abbrev pub decreases-loop-rest : goal.decreases-loop-rest
decreases-loop-rest l = length l.rest
