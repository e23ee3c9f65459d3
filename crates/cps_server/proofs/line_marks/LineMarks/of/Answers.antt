use Rattle.std.proofs.Common.{arith}
use Rattle.cps_server.proofs.LineLemmas.{ShowsMarks-all, card-within}
use Rattle.cps_server.proofs.line_marks.LineMarks.of.Goals as goal

pub overflow_cast-number : goal.overflow_cast-number
overflow_cast-number c = let within = card-within c.args.document.now c.args.place c.requires in omega (arith, within.1)

pub returns : goal.returns
returns c =
    ShowsMarks-all c.args.document.now c.args.place c.new-marks.result.items c.push_marks.new.marks.items c.new-marks.ensures.items c.in_ok-push_marks.ensures
