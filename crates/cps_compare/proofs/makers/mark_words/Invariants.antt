use Rattle.cps_code.specs.Image.{piece_of}
use Rattle.cps_compare.proofs.MakerLemmas.{MarksUpTo}
use Rattle.cps_compare.proofs.makers.mark_words.Given as goal

abbrev pub invariant-loop-address : goal.invariant-loop-address
invariant-loop-address l = MarksUpTo l.fn.slots l.maker (piece_of l.fn.piece) l.address l.slots
