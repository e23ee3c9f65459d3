use Rattle.std.proofs.Common.{◌≡◌, false, take}
use Rattle.std.specs.Prelude.{is_some}
use Rattle.std.specs.List.{list_any}
use Rattle.cps_state.specs.Course.{last_put}
use Rattle.cps_final.specs.Code.Kept.{keys_in}
use Rattle.cps_final.specs.Layout.{puts_of}
use Rattle.cps_chunk.proofs.walk.may_put.Given as goal

-- none so far is put
abbrev pub invariant-loop-i : goal.invariant-loop-i
invariant-loop-i l = list_any (λ k. is_some (last_put (puts_of l.traces) k)) (take l.i (keys_in l.changes)) ≡ false
