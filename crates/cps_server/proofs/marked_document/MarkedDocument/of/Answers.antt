use Rattle.std.proofs.Common.{◌≡◌, length, ap, arith}
use Rattle.cps_server.specs.Document.{source_of_text}
use Rattle.cps_server.proofs.KeepingLemmas.{AreKept-all}
use Rattle.cps_server.proofs.marked_document.MarkedDocument.of.Goals as goal

pub marks_between-requires-clause-within : goal.marks_between-requires-clause-within
marks_between-requires-clause-within c = omega (arith, ap length c.session.ensures, c.count-count.ensures.count)

pub invariant_of-result : goal.invariant_of-result
invariant_of-result c =
    let kept = c.in_ok-kept.kept.items in
    let all : length kept ≡ length (source_of_text c.args.document) =
    omega (arith, c.in_ok-kept.ensures.count, c.count-count.ensures.count, ap length c.session.ensures) in
    AreKept-all c.args.document kept all c.in_ok-kept.ensures.each
