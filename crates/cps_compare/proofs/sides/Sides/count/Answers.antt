use Rattle.std.proofs.Common.{◌≡◌, ◌++◌, OnOk, sym, subst}
use Rattle.std.specs.Prelude.{IfOk}
use Rattle.cps_compare.specs.declared.sides.Sides.{Sides}
use Rattle.cps_compare.specs.Findings.{Findings}
use Rattle.cps_compare.specs.Code.Kept.{AreKept}
use Rattle.cps_compare.specs.Code.Surveys.{AreCounts}
use Rattle.cps_compare.proofs.sides.Sides.count.Goals as goal

pub returns-in-Words : goal.returns-in-Words
returns-in-Words c = λ assembly found are.
    let kept = subst (λ (s : Sides). AreKept s assembly found) c.in-Words.is are in
    subst (λ (f : Findings). IfOk c.count.result (AreCounts f c.args.address)) (sym kept.2) (c.count.ensures assembly kept.0 kept.1)

pub returns-in-Listed : goal.returns-in-Listed
returns-in-Listed c = λ assembly found are.
    let kept = subst (λ (s : Sides). AreKept s assembly found) c.in-Listed.is are in
    subst (λ (f : Findings). IfOk c.count-in-Listed.result (AreCounts f c.args.address)) (sym kept.2) (c.count-in-Listed.ensures assembly kept.0 kept.1)
