use Rattle.std.proofs.Common.{◌≡◌, drop}
use Rattle.cps_final.specs.Code.Kept.{changes_in}
use Rattle.cps_chunk.specs.Noted.{stands}
use Rattle.cps_chunk.proofs.same.same_answers_under.Given as goal

-- the answer hangs on the keys that are left
abbrev pub invariant-loop-asked : goal.invariant-loop-asked
invariant-loop-asked l = stands (changes_in l.changes) (drop l.asked-index l.asks) ≡ stands (changes_in l.changes) l.asks
