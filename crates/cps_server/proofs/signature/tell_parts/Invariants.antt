use Rattle.std.proofs.Common.{◌≡◌, map, take}
use Rattle.serde_json.specs.View.{view}
use Rattle.cps_server.specs.Signatures.{part_json}
use Rattle.cps_server.proofs.signature.tell_parts.Given as goal

abbrev pub invariant-loop-part : goal.invariant-loop-part
invariant-loop-part l = map view l.told.items ≡ map part_json (take l.part-index l.parts)
