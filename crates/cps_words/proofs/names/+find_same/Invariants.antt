use Rattle.std.proofs.Common.{length}
use Rattle.cps_words.proofs.names.+find_same.Given as goal

abbrev pub decreases-find_same : goal.decreases-find_same
decreases-find_same g l = length l.names.now
