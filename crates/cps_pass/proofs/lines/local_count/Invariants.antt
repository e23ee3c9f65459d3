use Rattle.std.proofs.Common.{◌≡◌, ◌+◌, drop}
use Rattle.cps_pass.specs.Locals.{local_count}
use Rattle.cps_pass.proofs.lines.local_count.Given as goal

abbrev pub invariant-loop-count : goal.invariant-loop-count
invariant-loop-count l = l.count + local_count (drop l.count l.lines) ≡ local_count l.lines
