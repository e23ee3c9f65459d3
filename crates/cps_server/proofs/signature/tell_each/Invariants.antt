use Rattle.std.proofs.Common.{◌≡◌, map, take}
use Rattle.serde_json.specs.View.{view}
use Rattle.cps_server.specs.Signatures.{signature_json}
use Rattle.cps_server.proofs.signature.tell_each.Given as goal

abbrev pub invariant-loop-signature : goal.invariant-loop-signature
invariant-loop-signature l = map view l.told.items ≡ map signature_json (take l.signature-index l.signatures)
