use Rattle.std.proofs.Common.{◌≡◌, ◌+◌, ◌++◌, drop}
use Rattle.cps_pass.specs.Locals.{generated_behind}
use Rattle.cps_pass.proofs.names.push_generated.Given as goal

-- what is left goes on from here
abbrev pub invariant-loop-name : goal.invariant-loop-name
invariant-loop-name l = record {
  number : l.number ≡ l.count + l.name-index;
  left : l.known ++ generated_behind l.number (drop l.name-index l.names) ≡ l.fn.known ++ generated_behind l.count l.names;
}
