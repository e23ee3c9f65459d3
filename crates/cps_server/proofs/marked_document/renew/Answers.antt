use Rattle.std.proofs.Common.{List, sym, subst, arith}
use Rattle.cps_server.specs.declared.line_marks.LineMarks.{LineMarks}
use Rattle.cps_server.specs.Code.Keeping.{AreKeptBut}
use Rattle.cps_server.proofs.KeepingLemmas.{AreKeptBut-past, AreKeptBut-set}
use Rattle.cps_server.proofs.marked_document.renew.Goals as goal

pub returns-then-place-len : goal.returns-then-place-len
returns-then-place-len c = λ stale are.
    AreKeptBut-past c.args.document.now c.args.place stale c.args.kept.now.items (omega (arith, c.if-place-len.true, c.len.ensures, c.args.kept.now.ok.0)) are

pub returns : goal.returns
returns c = λ stale are.
    subst (λ (kept : List LineMarks). AreKeptBut c.args.document.now stale kept) (sym c.set_line.ensures)
    (AreKeptBut-set c.args.document.now c.args.place stale c.args.kept.now.items c.in_ok-line.line
    (omega (arith, c.if-place-len.false, c.len.ensures, c.args.kept.now.ok.0)) c.in_ok-line.ensures are)
