use Rattle.std.proofs.Common.{sym, subst}
use Rattle.std.specs.Prelude.{MatchOption}
use Rattle.cps_compare.specs.Comparison.{IsFirst, IsLast, NoneGiven, SomeGiven}
use Rattle.cps_compare.specs.declared.sides.Sides.{Sides}
use Rattle.cps_compare.specs.Code.Kept.{AreKept}
use Rattle.cps_compare.specs.Findings.{Findings}
use Rattle.cps_compare.proofs.sides.Sides.gives_some.Goals as goal

pub returns-in-Listed : goal.returns-in-Listed
returns-in-Listed c = λ assembly found are.
    let kept = subst (λ (s : Sides). AreKept s assembly found) c.in-Listed.is are in
    subst (λ (f : Findings). SomeGiven f c.args.span.low c.args.span.high c.gives_some-in-Listed.result) (sym kept.2)
    (c.gives_some-in-Listed.ensures assembly kept.0 kept.1)
