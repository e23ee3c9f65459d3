use Rattle.std.proofs.Common.{All}
use Rattle.cps_server.specs.Signatures.{IsPart}
use Rattle.cps_server.proofs.signature.parts_within.Given as goal

abbrev pub invariant-loop-part : goal.invariant-loop-part
invariant-loop-part l = All (IsPart l.count) l.within.items
