use Rattle.std.proofs.Common.{length}
use Rattle.cps_page.specs.Code.Making.{AreWordsTo}
use Rattle.cps_page.proofs.words.list_words.Given as goal

abbrev pub invariant-loop-rest : goal.invariant-loop-rest
invariant-loop-rest l = AreWordsTo l.last l.words.items

abbrev pub decreases-loop-rest : goal.decreases-loop-rest
decreases-loop-rest l = length l.rest
