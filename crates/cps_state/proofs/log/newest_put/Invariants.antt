use Rattle.std.proofs.Common.{◌≡◌, ◌≤◌, length, take}
use Rattle.cps_state.specs.Course.{last_put}
use Rattle.cps_state.proofs.log.newest_put.Given as goal

-- what comes after has other keys
abbrev pub invariant-loop-place : goal.invariant-loop-place
invariant-loop-place l = record {
  within : l.place ≤ length l.puts;
  others : last_put l.puts l.key ≡ last_put (take l.place l.puts) l.key;
}

abbrev pub decreases-loop-place : goal.decreases-loop-place
decreases-loop-place l = l.place
