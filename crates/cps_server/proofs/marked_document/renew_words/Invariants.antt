use Rattle.cps_server.specs.Code.Keeping.{AreKept}
use Rattle.cps_server.proofs.marked_document.renew_words.Given as goal

abbrev pub invariant-loop-place : goal.invariant-loop-place
invariant-loop-place l = AreKept l.document l.kept.items
