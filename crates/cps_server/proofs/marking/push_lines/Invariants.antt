use Rattle.cps_server.specs.Code.Listing.{ListsLines}
use Rattle.cps_server.proofs.marking.push_lines.Given as goal

abbrev pub invariant-loop-number : goal.invariant-loop-number
invariant-loop-number l = ListsLines l.marked l.number l.marks
