use Rattle.std.proofs.Common.{◌≡◌, drop}
use Rattle.cps_state.specs.Keys.{State, overwritten}
use Rattle.cps_final.specs.Changes.{changed}
use Rattle.cps_final.specs.Code.Kept.{changes_in}
use Rattle.cps_final.proofs.changes.Changes.put_all.Given as goal

-- what is left makes of each state with these changes what all make of it with those before
abbrev pub invariant-loop-put : goal.invariant-loop-put
invariant-loop-put l =
    (state : State) → overwritten (changed (changes_in l.self) state) (drop l.put-index l.puts) ≡ overwritten (changed (changes_in l.fn.self) state) l.puts
