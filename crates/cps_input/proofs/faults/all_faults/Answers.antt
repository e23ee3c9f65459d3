use Rattle.std.proofs.Common.{◌+◌, ◌≤◌, ◌<◌, length, refl, sym, subst, inr, arith}
use Rattle.cps_text.specs.Line.{longest_line}
use Rattle.cps_input.specs.Faults.{AreAll}
use Rattle.cps_input.proofs.FaultLemmas.{all-push}
use Rattle.cps_input.proofs.faults.all_faults.Goals as goal

pub returns : goal.returns
returns c =
    let line = c.args.line.now in
    let at = c.loop-at.at in
    let within : at ≤ length line = c.loop-at.invariant.within in
    let ended = c.loop-at-test.false in
    let limit = c.min-limit.ensures in
    let apart = c.if-at-line.false in
    let some : at + 1 ≤ length line = omega arith in
    let behind : longest_line < at + 1 = omega arith in
    subst (λ l. AreAll c.args.number line 0 l (length line)) (sym c.in_ok-push.ensures.items)
    (all-push c.args.number line 0 c.loop-at.faults.items at _ c.loop-at.invariant.all refl
    (inr (record { first = behind; order = some; last = refl; misfit = refl })))
