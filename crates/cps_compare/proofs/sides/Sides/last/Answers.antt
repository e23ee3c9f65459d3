use Rattle.std.proofs.Common.{sym, subst}
use Rattle.std.specs.Prelude.{MatchOption}
use Rattle.cps_compare.specs.Comparison.{IsFirst, IsLast, NoneGiven, SomeGiven}
use Rattle.cps_compare.specs.declared.sides.Sides.{Sides}
use Rattle.cps_compare.specs.Code.Kept.{AreKept}
use Rattle.cps_compare.specs.Findings.{Findings}
use Rattle.cps_compare.proofs.sides.Sides.last.Goals as goal

pub returns-in-Words-clause-last : goal.returns-in-Words-clause-last
returns-in-Words-clause-last c = λ assembly found are.
    let kept = subst (λ (s : Sides). AreKept s assembly found) c.in-Words.is are in
    subst (λ (f : Findings). MatchOption c.last.result (NoneGiven f) (IsLast f.is_compared)) (sym kept.2) (c.last.ensures.last assembly kept.0 kept.1)

pub returns-in-Listed-clause-last : goal.returns-in-Listed-clause-last
returns-in-Listed-clause-last c = λ assembly found are.
    let kept = subst (λ (s : Sides). AreKept s assembly found) c.in-Listed.is are in
    subst (λ (f : Findings). MatchOption c.last-in-Listed.result (NoneGiven f) (IsLast f.is_compared)) (sym kept.2) (c.last-in-Listed.ensures.last assembly kept.0 kept.1)
