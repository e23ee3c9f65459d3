use Rattle.std.proofs.Common.{◌<◌, ap, ◌∙◌, length, take, arith}
use Rattle.cps_input.proofs.PartLemmas.{part-at}
use Rattle.cps_final.specs.contracts.finals.FinalsGathered.TheImpl.{gathered-value}
use Rattle.cps_batch.proofs.PassLemmas.{gathers-more, two-more, two-all, number-taken}
use Rattle.cps_batch.proofs.passes.show_again.Goals as goal

pub loop-before-preserved : goal.loop-before-preserved
loop-before-preserved c =
    let lines = c.args.lines.now in
    let i = c.loop-before.before in
    let line = c.line.result.now in
    let within : i < length lines = omega (arith, c.len-before-end.ensures, c.loop-before-test.true) in
    let is = part-at lines i line within c.line.ensures in
    let so = c.loop-before.invariant in
    let taken = c.in_ok-take_line.ensures in
    record {
      gathered = gathers-more _ lines i line within is (taken.gathered (take i lines) so.gathered);
      shown = two-more c.take_line.new.self.two lines i line within is (taken.shown (take i lines) so.gathered so.shown (number-taken lines i within));
      finals = taken.finals ∙ so.finals;
      part = taken.part ∙ so.part;
      few = taken.few;
    }

pub returns-clause-printout : goal.returns-clause-printout
returns-clause-printout c =
    two-all (gathered-value.it c.args.finals.now) c.loop-before.again.two c.take_printout.result c.args.lines.now c.loop-before.before (omega (arith, c.len-before-end.ensures, c.loop-before-test.false))
    (ap gathered-value.it c.loop-before.invariant.finals) c.take_printout.ensures c.loop-before.invariant.shown
