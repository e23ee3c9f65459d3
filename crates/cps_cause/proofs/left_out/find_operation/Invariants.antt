use Rattle.std.proofs.Common.{◌≡◌, drop}
use Rattle.cps_cause.specs.LeftOut.{is_named_among}
use Rattle.cps_cause.specs.Code.LeftOutNames.{names}
use Rattle.cps_cause.proofs.left_out.find_operation.Given as goal

abbrev pub invariant-loop-name : goal.invariant-loop-name
invariant-loop-name l = is_named_among (names (drop l.name-index l.operations)) l.word ≡ is_named_among (names l.operations) l.word
