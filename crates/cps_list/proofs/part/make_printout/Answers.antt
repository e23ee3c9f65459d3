use Rattle.std.proofs.Common.{◌≤◌, rules, arith, subst, ◌∙◌, take, length}
use Rattle.std.proofs.lemmas.List.{take_all}
use Rattle.cps_list.specs.Code.Making.{IsPrintoutOf}
use Rattle.cps_list.proofs.ViewLemmas.{number-next, printout-next}
use Rattle.cps_list.proofs.part.make_printout.Goals as goal

pub add-requires : goal.add-requires
add-requires g c =
    let few = c.loop-before.invariant.few in
    omega (arith, few)

pub loop-before-preserved : goal.loop-before-preserved
loop-before-preserved g c =
    let source = g.V.View.assembly c.args.view.now in
    let before = c.loop-before.before in
    let added = c.in_ok-add.ensures in
    record {
      printout = printout-next source.lines source.outcomes before c.in-Some.line.now _ c.in-Some-outcome.outcome.now c.add.new.self c.in-Some.ensures.line c.in-Some-outcome.ensures.outcome
          c.bytes.ensures.value
          (added.printout (take before source.lines) (take before source.outcomes) c.in-Some-outcome.outcome.now c.loop-before.invariant.printout
          (number-next source.lines before c.in-Some.line.now c.in-Some.ensures.line) c.rows.ensures c.pieces.ensures);
      part = added.part ∙ c.loop-before.invariant.part;
      few = added.few;
    }

pub returns-clause-printout : goal.returns-clause-printout
returns-clause-printout g c =
    let source = g.V.View.assembly c.args.view.now in
    let before = c.loop-before.before in
    let lines : length source.lines ≤ before = search rules in
    let outcomes : length source.outcomes ≤ before = search rules in
    subst (λ ls. IsPrintoutOf ls source.outcomes c.loop-before.printout) (take_all before source.lines lines)
    (subst (λ os. IsPrintoutOf (take before source.lines) os c.loop-before.printout) (take_all before source.outcomes outcomes) c.loop-before.invariant.printout)
