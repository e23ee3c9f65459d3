use Rattle.std.specs.List.{All}
use Rattle.cps_server.specs.Code.Writing.{IsIdleAmong}
use Rattle.cps_server.proofs.idle_lines.runs_among.Given as goal

abbrev pub invariant-loop-lines : goal.invariant-loop-lines
invariant-loop-lines l = All (IsIdleAmong l.count) l.runs.items
