use Rattle.std.proofs.Common.{◌≡◌, ◌≤◌, ◌*◌, drop}
use Rattle.cps_state.specs.Machines.{limit}
use Rattle.cps_state.specs.Made.{end_of}
use Rattle.cps_state.proofs.made.end_of.Given as goal

abbrev pub invariant-loop-content : goal.invariant-loop-content
invariant-loop-content l = record {
  within : l.at ≤ 60 * limit l.machine;
  left : end_of l.machine l.at (drop l.content-index l.contents) ≡ end_of l.machine l.start l.contents;
}
