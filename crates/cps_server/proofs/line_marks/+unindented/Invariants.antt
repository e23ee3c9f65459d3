use Rattle.std.proofs.Common.{length}
use Rattle.cps_server.proofs.line_marks.+unindented.Given as goal

abbrev pub decreases-unindented : goal.decreases-unindented
decreases-unindented l = length l.text.now
