use Rattle.std.proofs.Common.{◌≡◌, ◌++◌, length, map}
use Rattle.cps_text.specs.Arguments.{argument_len, without_pair, arguments_of}
use Rattle.cps_text.specs.Code.PartsLeft.{parts_left}
use Rattle.cps_text.proofs.argument_list.collect_arguments.Given as goal

abbrev pub invariant-loop-left : goal.invariant-loop-left
invariant-loop-left l = map (λ argument. argument.now) l.list.items ++ map without_pair (parts_left argument_len l.left) ≡ arguments_of l.tail

abbrev pub decreases-loop-left : goal.decreases-loop-left
decreases-loop-left l = length (parts_left argument_len l.left)
