use Rattle.std.proofs.Common.{◌≡◌, false, take}
use Rattle.std.specs.List.{list_any}
use Rattle.cps_final.specs.Code.Kept.{keys_in}
use Rattle.cps_chunk.specs.Code.Sought.{is_asked}
use Rattle.cps_chunk.proofs.walk.may_ask.Given as goal

-- none so far is asked
abbrev pub invariant-loop-i : goal.invariant-loop-i
invariant-loop-i l = list_any (is_asked l.traces) (take l.i (keys_in l.changes)) ≡ false
