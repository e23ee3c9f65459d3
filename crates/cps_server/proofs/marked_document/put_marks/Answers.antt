use Rattle.std.proofs.Common.{List, sym, subst, ◌∙◌, arith}
use Rattle.std.proofs.lemmas.Result.{on_ok_weaker}
use Rattle.cps_rpc.specs.Lines.{source_lines}
use Rattle.cps_server.specs.declared.line_marks.LineMarks.{LineMarks}
use Rattle.cps_server.specs.Code.Keeping.{AreKeptBut}
use Rattle.cps_server.proofs.KeepingLemmas.{kept-put}
use Rattle.cps_server.proofs.SourceLemmas.{length-cards}
use Rattle.cps_server.proofs.marked_document.put_marks.Goals as goal

pub overflow_add-end : goal.overflow_add-end
overflow_add-end c = let few = length-cards (source_lines c.args.document.now) in omega (arith, c.requires.2.count, few)

pub marks_between-requires-clause-within : goal.marks_between-requires-clause-within
marks_between-requires-clause-within c = omega (arith, c.requires.2.count)

pub returns : goal.returns
returns c =
    let touched = c.args.touched.now in
    let left = c.requires in
    on_ok_weaker c.put_between.result
    (λ put. subst (λ (kept : List LineMarks). AreKeptBut c.args.document.now touched.redone.places.items kept) (sym put)
    (kept-put left.0 c.args.document.now c.args.kept.now.items c.in_ok-come.come.items touched left.1 left.2
    (c.in_ok-come.ensures.count ∙ omega arith) c.in_ok-come.ensures.each))
    c.put_between.ensures
