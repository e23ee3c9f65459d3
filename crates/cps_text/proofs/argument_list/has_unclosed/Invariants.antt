use Rattle.std.proofs.Common.{◌≡◌, length}
use Rattle.std.specs.List.{list_any}
use Rattle.cps_text.specs.Arguments.{argument_len, is_unclosed, has_unclosed}
use Rattle.cps_text.specs.Code.PartsLeft.{parts_left}
use Rattle.cps_text.proofs.argument_list.has_unclosed.Given as goal

abbrev pub invariant-loop-left : goal.invariant-loop-left
invariant-loop-left l = list_any is_unclosed (parts_left argument_len l.left) ≡ has_unclosed l.tail

abbrev pub decreases-loop-left : goal.decreases-loop-left
decreases-loop-left l = length (parts_left argument_len l.left)
