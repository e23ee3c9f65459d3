use Rattle.std.proofs.Common.{◌<◌, ◌∙◌, length, take, arith}
use Rattle.cps_input.proofs.PartLemmas.{part-at}
use Rattle.cps_batch.proofs.PassLemmas.{passed-more, passed-all, number-taken}
use Rattle.cps_batch.proofs.passes.BatchPassOne.of.Goals as goal

pub take_line-requires : goal.take_line-requires
take_line-requires c = (_, c.loop-before.invariant.passed)

pub loop-before-preserved : goal.loop-before-preserved
loop-before-preserved c =
    let lines = c.args.lines.now in
    let i = c.loop-before.before in
    let within : i < length lines = omega (arith, c.len-before-end.ensures, c.loop-before-test.true) in
    let line = c.line.result.now in
    record {
      passed = passed-more c.take_line.new.self lines i line within (part-at lines i line within c.line.ensures)
          (c.in_ok-take_line.ensures.passed (take i lines) c.loop-before.invariant.passed (number-taken lines i within));
      part = c.in_ok-take_line.ensures.part ∙ c.loop-before.invariant.part;
    }

pub returns-clause-passed : goal.returns-clause-passed
returns-clause-passed c =
    passed-all c.loop-before.one c.args.lines.now c.loop-before.before (omega (arith, c.len-before-end.ensures, c.loop-before-test.false)) c.loop-before.invariant.passed
