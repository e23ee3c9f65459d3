use Rattle.std.proofs.Common.{◌≡◌, drop}
use Rattle.std.specs.List.{list_any}
use Rattle.cps_pass.specs.Locals.{is_taken}
use Rattle.cps_pass.proofs.names.some_is_taken.Given as goal

abbrev pub invariant-loop-name : goal.invariant-loop-name
invariant-loop-name l = list_any (is_taken l.known) (drop l.name-index l.names) ≡ list_any (is_taken l.known) l.names
