use Rattle.std.proofs.Common.{◌≡◌, ℕ, ◌<◌, List, length, refl, ap, subst, arith}
use Rattle.std.proofs.lemmas.Option.{slice_get_read}
use Rattle.cps_server.specs.Document.{source_of_text}
use Rattle.cps_server.specs.Code.Listing.{ListsLines}
use Rattle.cps_server.proofs.KeepingLemmas.{AreKept-line}
use Rattle.cps_server.proofs.TextMarksLemmas.{ListsLines-next, ListsLines-none}
use Rattle.cps_server.proofs.marking.push_lines.Goals as goal

pub loop-number-init : goal.loop-number-init
loop-number-init c = ListsLines-none c.args.marked.now c.args.marks.now c.requires

pub loop-number-preserved : goal.loop-number-preserved
loop-number-preserved c =
    let kept = c.marks-kept.result.now in
    let number = c.loop-number.number in
    let line = c.index-kept-number.result in
    let within : number < length kept =
    omega (arith, c.marks-kept.ensures.count, ap length c.session.ensures, ap (λ (t : List ℕ). length (source_of_text t)) c.document-document.ensures, c.count-number-end.ensures.count, c.loop-number-test.true) in
    ListsLines-next c.args.marked.now number line c.loop-number.marks c.push_line.new.self c.loop-number.invariant
    (AreKept-line c.args.marked.now kept number line c.marks-kept.ensures (slice_get_read kept (length kept) number line refl within c.index-kept-number.is))
    c.in_ok-push_line.ensures

pub returns : goal.returns
returns c =
    let same : c.loop-number.number ≡ length (source_of_text c.args.marked.now) =
    omega (arith, ap length c.session.ensures, ap (λ (t : List ℕ). length (source_of_text t)) c.document-document.ensures, c.count-number-end.ensures.count, c.loop-number-test.false, c.loop-number.auto.number-end) in
    subst (λ n. ListsLines c.args.marked.now n c.loop-number.marks) same c.loop-number.invariant
