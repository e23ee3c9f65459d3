use Rattle.std.proofs.Common.{refl}
use Rattle.cps_server.proofs.TextMarksLemmas.{Lists-none}
use Rattle.cps_server.proofs.first_marks.FirstMarks.new.Goals as goal

pub returns : goal.returns
returns c = Lists-none _ c.new.ensures.items refl
