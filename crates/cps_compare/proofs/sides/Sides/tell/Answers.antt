use Rattle.std.proofs.Common.{◌≡◌, ◌++◌, OnOk, sym, subst}
use Rattle.std.specs.Prelude.{IfOk}
use Rattle.cps_compare.specs.declared.sides.Sides.{Sides}
use Rattle.cps_compare.specs.Findings.{Findings}
use Rattle.cps_compare.specs.Code.Kept.{AreKept}
use Rattle.cps_compare.specs.Code.Surveys.{AreCounts}
use Rattle.cps_compare.proofs.sides.Sides.tell.Goals as goal

pub returns-in-Words : goal.returns-in-Words
returns-in-Words g c = λ found are.
    let assembly = g.V.View.assembly c.args.view.now in
    let kept = subst (λ (s : Sides). AreKept s assembly found) c.in-Words.is are in
    subst (λ (f : Findings). OnOk c.tell.result (c.tell.new.telling.text.items ≡ c.args.telling.now.text.items ++ f.told c.args.address)) (sym kept.2)
    (c.tell.ensures kept.0 kept.1)
