use Rattle.std.proofs.Common.{◌≡◌, ◌&&◌, drop}
use Rattle.cps_text.specs.Line.{all_accepted}
use Rattle.cps_text.proofs.line.has_accepted_bytes.Given as goal

abbrev pub invariant-loop-byte : goal.invariant-loop-byte
invariant-loop-byte l = (l.accepted && all_accepted (drop l.byte-index l.text)) ≡ all_accepted l.text
