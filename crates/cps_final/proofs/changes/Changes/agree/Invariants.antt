use Rattle.std.proofs.Common.{◌≡◌, drop}
use Rattle.cps_final.specs.Changes.{agreed}
use Rattle.cps_final.specs.Code.Kept.{changes_in}
use Rattle.cps_final.proofs.changes.Changes.agree.Given as goal

-- what is left settles what is there to the same end
abbrev pub invariant-loop-put : goal.invariant-loop-put
invariant-loop-put l = agreed (changes_in l.self) (drop l.put-index l.puts) ≡ agreed (changes_in l.fn.self) l.puts
