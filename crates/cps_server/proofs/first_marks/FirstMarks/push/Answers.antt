use Rattle.std.proofs.Common.{refl, arith}
use Rattle.cps_server.proofs.TextMarksLemmas.{Lists-mark, Lists-past}
use Rattle.cps_server.proofs.first_marks.FirstMarks.push.Goals as goal

pub returns-then-len-gt-MOST_TOLD : goal.returns-then-len-gt-MOST_TOLD
returns-then-len-gt-MOST_TOLD c =
    Lists-past c.args.mark c.args.self.now _ (omega (arith, c.if-len-gt-MOST_TOLD.true, c.len.ensures, c.args.self.now.first.ok.0)) refl c.in-Some.ensures.1

pub returns : goal.returns
returns c =
    Lists-mark c.args.mark c.args.self.now _ (omega (arith, c.if-len-gt-MOST_TOLD.false, c.len.ensures, c.args.self.now.first.ok.0))
    c.in_ok-push.ensures.items c.in-Some.ensures.1
