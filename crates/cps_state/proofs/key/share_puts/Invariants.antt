use Rattle.std.proofs.Common.{◌≡◌, ◌++◌, reverse}
use Rattle.cps_state.proofs.key.share_puts.Given as goal

-- what is left stands before what is shared
abbrev pub invariant-loop-put : goal.invariant-loop-put
invariant-loop-put l = l.put-iterator.iter.rest.now ++ reverse l.same.items ≡ l.puts
