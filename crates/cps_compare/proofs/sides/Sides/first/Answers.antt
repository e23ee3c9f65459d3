use Rattle.std.proofs.Common.{sym, subst}
use Rattle.std.specs.Prelude.{MatchOption}
use Rattle.cps_compare.specs.Comparison.{IsFirst, IsLast, NoneGiven, SomeGiven}
use Rattle.cps_compare.specs.declared.sides.Sides.{Sides}
use Rattle.cps_compare.specs.Code.Kept.{AreKept}
use Rattle.cps_compare.specs.Findings.{Findings}
use Rattle.cps_compare.proofs.sides.Sides.first.Goals as goal

pub returns-in-Words : goal.returns-in-Words
returns-in-Words c = λ assembly found are.
    let kept = subst (λ (s : Sides). AreKept s assembly found) c.in-Words.is are in
    subst (λ (f : Findings). MatchOption c.first.result (NoneGiven f) (IsFirst f.is_compared)) (sym kept.2) (c.first.ensures assembly kept.0 kept.1)

pub returns-in-Listed : goal.returns-in-Listed
returns-in-Listed c = λ assembly found are.
    let kept = subst (λ (s : Sides). AreKept s assembly found) c.in-Listed.is are in
    subst (λ (f : Findings). MatchOption c.first-in-Listed.result (NoneGiven f) (IsFirst f.is_compared)) (sym kept.2) (c.first-in-Listed.ensures assembly kept.0 kept.1)
