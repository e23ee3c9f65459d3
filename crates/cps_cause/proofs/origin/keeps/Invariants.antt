use Rattle.std.proofs.Common.{◌≡◌, drop}
use Rattle.cps_cause.specs.Origin.{keeps}
use Rattle.cps_cause.proofs.origin.keeps.Given as goal

abbrev pub invariant-loop-put : goal.invariant-loop-put
invariant-loop-put l = keeps l.before (drop l.put-index l.puts) ≡ keeps l.before l.puts
