use Rattle.std.proofs.Common.{◌+◌, ◌-◌, ◌*◌}
use Rattle.cps_text.specs.declared.limits.TheConstants.{DEEPEST}
use Rattle.cps_mention.proofs.walk.+walking.Given as goal

abbrev pub decreases-open : goal.decreases-open
decreases-open l = 4 * (DEEPEST + 1 - l.depth) + 3

abbrev pub decreases-take_turns : goal.decreases-take_turns
decreases-take_turns l = 4 * (DEEPEST + 1 - l.depth) + 2

abbrev pub decreases-go_through : goal.decreases-go_through
decreases-go_through l = 4 * (DEEPEST + 1 - l.depth) + 1

abbrev pub decreases-pass_statement : goal.decreases-pass_statement
decreases-pass_statement l = 4 * (DEEPEST + 1 - l.depth)
