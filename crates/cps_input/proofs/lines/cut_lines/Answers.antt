use Rattle.std.proofs.Common.{◌<◌, length, arith}
use Rattle.std.proofs.lemmas.Bool.Decides.{nat_tests}
use Rattle.cps_input.proofs.LineLemmas.{cut-push, cut-push-last}
use Rattle.cps_input.proofs.lines.cut_lines.Goals as goal

pub loop-at-preserved : goal.loop-at-preserved
loop-at-preserved c =
    cut-push c.args.text.now c.loop-at.lines.items c.push.new.self.items c.without_return.result c.loop-at.rest.now c.behind-rest.result.now c.in-Some.at
    c.loop-at.invariant c.in-Some.ensures.place c.in_ok-push.ensures.items c.without_return.ensures c.behind-rest.ensures

pub returns : goal.returns
returns c =
    let rest = c.loop-at.rest.now in
    let some : 0 < length rest = grind (arith, nat_tests) in
    cut-push-last c.args.text.now c.loop-at.lines.items c.push-2.new.self.items c.without_return-last.result rest c.loop-at.invariant c.in_default.ensures.place some
    c.in_ok-push-2.ensures.items c.without_return-last.ensures
