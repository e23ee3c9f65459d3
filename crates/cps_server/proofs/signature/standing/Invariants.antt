use Rattle.std.proofs.Common.{All}
use Rattle.cps_server.specs.Signatures.{IsSignature}
use Rattle.cps_server.proofs.signature.standing.Given as goal

abbrev pub invariant-loop-signature : goal.invariant-loop-signature
invariant-loop-signature l = All IsSignature l.signatures.items
