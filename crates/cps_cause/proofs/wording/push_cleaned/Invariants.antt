use Rattle.std.proofs.Common.{◌≡◌, ◌++◌, take}
use Rattle.cps_cause.specs.Sentence.{cleaned}
use Rattle.cps_cause.proofs.wording.push_cleaned.Given as goal

abbrev pub invariant-loop-byte : goal.invariant-loop-byte
invariant-loop-byte l = l.text.items ≡ l.fn.text.items ++ cleaned (take l.byte-index l.more)
