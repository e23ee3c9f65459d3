use Rattle.std.proofs.Common.{List, ◌++◌}
use Rattle.cps_server.specs.Foldings.{AreFoldings}
use Rattle.cps_server.specs.declared.folding.Folding.{Folding}
use Rattle.cps_server.proofs.folding.keep_standing.Given as goal

-- whatever follows those that are kept makes foldings with them
abbrev pub invariant-loop-folding : goal.invariant-loop-folding
invariant-loop-folding l = (rest : List Folding) → AreFoldings l.count l.least rest → AreFoldings l.count 0 (l.kept.items ++ rest)
