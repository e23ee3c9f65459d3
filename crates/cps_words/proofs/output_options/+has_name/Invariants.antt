use Rattle.std.proofs.Common.{length}
use Rattle.cps_words.proofs.output_options.+has_name.Given as goal

abbrev pub decreases-has_name : goal.decreases-has_name
decreases-has_name l = length l.names.now
