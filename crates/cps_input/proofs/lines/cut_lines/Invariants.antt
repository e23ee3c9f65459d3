use Rattle.std.proofs.Common.{ℕ, List, length, map}
use Rattle.std.specs.Borrow.{Bor}
use Rattle.cps_input.proofs.LineLemmas.{AreCut}
use Rattle.cps_input.proofs.lines.cut_lines.Given as goal

abbrev pub invariant-loop-at : goal.invariant-loop-at
invariant-loop-at l = AreCut l.text (map (λ (line : Bor (List ℕ)). line.now) l.lines.items) l.rest

abbrev pub decreases-loop-at : goal.decreases-loop-at
decreases-loop-at l = length l.rest
