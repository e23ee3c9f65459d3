use Rattle.std.proofs.Common.{length}
use Rattle.cps_words.proofs.names.+find_replacing.Given as goal

abbrev pub decreases-find_replacing : goal.decreases-find_replacing
decreases-find_replacing g l = length l.names.now
