use Rattle.std.proofs.Common.{◌≡◌, drop}
use Rattle.cps_check.specs.Sentences.{words_among}
use Rattle.cps_check.specs.Code.Kept.{sentence_values}
use Rattle.cps_check.proofs.sentences.words_of.Given as goal

abbrev pub invariant-loop-shown : goal.invariant-loop-shown
invariant-loop-shown l = words_among (sentence_values (drop l.shown-index l.sentences)) l.key ≡ words_among (sentence_values l.sentences) l.key
