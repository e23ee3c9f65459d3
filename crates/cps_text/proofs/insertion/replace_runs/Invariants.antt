use Rattle.std.proofs.Common.{◌≡◌, ◌++◌, length}
use Rattle.std.specs.List.{flat_map}
use Rattle.cps_text.specs.Insertion.{is_of_run, replaced}
use Rattle.cps_text.specs.Runs.{runs}
use Rattle.cps_text.proofs.insertion.replace_runs.Given as goal

abbrev pub invariant-loop-rest : goal.invariant-loop-rest
invariant-loop-rest g l =
    l.text.items ++ flat_map (replaced (g.S.Substitution.pairs l.substitution)) (runs is_of_run l.rest) ≡ flat_map (replaced (g.S.Substitution.pairs l.substitution)) (runs is_of_run l.body)

abbrev pub decreases-loop-rest : goal.decreases-loop-rest
decreases-loop-rest g l = length l.rest
