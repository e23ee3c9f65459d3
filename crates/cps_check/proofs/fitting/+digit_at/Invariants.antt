use Rattle.std.proofs.Common.{length}
use Rattle.cps_check.proofs.fitting.+digit_at.Given as goal

abbrev pub decreases-digit_at : goal.decreases-digit_at
decreases-digit_at l = length l.letters.now
