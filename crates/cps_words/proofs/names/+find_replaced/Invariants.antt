use Rattle.std.proofs.Common.{length}
use Rattle.cps_words.proofs.names.+find_replaced.Given as goal

abbrev pub decreases-find_replaced : goal.decreases-find_replaced
decreases-find_replaced g l = length l.names.now
