use Rattle.std.proofs.Common.{◌≤◌, ◌-◌, length}
use Rattle.cps_markup.proofs.targets.Targets.words_before.Given as goal

abbrev pub invariant-loop-low : goal.invariant-loop-low
invariant-loop-low l = l.high ≤ length l.self.words.items

abbrev pub decreases-loop-low : goal.decreases-loop-low
decreases-loop-low l = l.high - l.low
