use Rattle.std.proofs.Common.{◌≡◌, IsTrue}
use Rattle.std.specs.Prelude.{take}
use Rattle.json.specs.Print.{escape}
use Rattle.cps_server.proofs.writing.is_plain.Given as goal

abbrev pub invariant-loop-byte : goal.invariant-loop-byte
invariant-loop-byte l = IsTrue l.plain → escape (take l.byte-index l.bytes) ≡ take l.byte-index l.bytes
