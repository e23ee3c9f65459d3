use Rattle.std.proofs.Common.{◌≡◌, ◌+◌, ◌≤◌, drop, length}
use Rattle.cps_final.specs.Layout.{names_put}
use Rattle.cps_final.proofs.blocks.count_named.Given as goal

-- what is counted, with what is left
abbrev pub invariant-loop-put : goal.invariant-loop-put
invariant-loop-put l = record {
  names : l.count + length (names_put (drop l.put-index l.puts)) ≡ length (names_put l.puts);
  most : l.count ≤ l.put-index;
}
