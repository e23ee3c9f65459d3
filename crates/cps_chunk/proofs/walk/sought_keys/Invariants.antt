use Rattle.std.proofs.Common.{◌≡◌, map, take}
use Rattle.cps_final.specs.Code.Kept.{keys_in}
use Rattle.cps_chunk.specs.KeyFilter.{mark_of}
use Rattle.cps_chunk.proofs.walk.sought_keys.Given as goal

-- those so far are sought
abbrev pub invariant-loop-i : goal.invariant-loop-i
invariant-loop-i l = l.sought ≡ map (mark_of l.hashing) (take l.i (keys_in l.changes))
