use Rattle.std.proofs.Common.{◌≡◌, ◌<◌, ◌+◌, subst, ◌∙◌, length, take, arith}
use Rattle.cps_input.proofs.PartLemmas.{part-at}
use Rattle.cps_edit.specs.Assembly.{traces_of}
use Rattle.cps_batch.specs.Code.Passes.{IsShown, statements_of}
use Rattle.cps_batch.proofs.KeptLemmas.{group-reaches, item-there}
use Rattle.cps_batch.proofs.PassLemmas.{statements-length, two-more, number-taken, trace-at}
use Rattle.cps_batch.proofs.passes.PassTwo.add_group.Goals as goal

pub overflow_add-before : goal.overflow_add-before
overflow_add-before c =
    let lines = c.args.lines.now in
    let all = statements_of (traces_of lines) in
    let here : c.loop-at.at < length c.args.group.now = omega (arith, c.len-at-end.ensures, c.loop-at-test.true) in
    let reaches = group-reaches all c.args.group.now c.requires.kept.0 c.args.shown c.loop-at.at c.requires.kept.1 here in
    omega (arith, reaches, statements-length lines, c.requires.few, here)

pub line-requires : goal.line-requires
line-requires c =
    let lines = c.args.lines.now in
    let all = statements_of (traces_of lines) in
    let here : c.loop-at.at < length c.args.group.now = omega (arith, c.len-at-end.ensures, c.loop-at-test.true) in
    let reaches = group-reaches all c.args.group.now c.requires.kept.0 c.args.shown c.loop-at.at c.requires.kept.1 here in
    omega (arith, reaches, statements-length lines, here)

pub overflow_cast-before : goal.overflow_cast-before
overflow_cast-before c =
    let lines = c.args.lines.now in
    let all = statements_of (traces_of lines) in
    let here : c.loop-at.at < length c.args.group.now = omega (arith, c.len-at-end.ensures, c.loop-at-test.true) in
    let reaches = group-reaches all c.args.group.now c.requires.kept.0 c.args.shown c.loop-at.at c.requires.kept.1 here in
    omega (arith, reaches, statements-length lines, c.requires.few, here)

pub overflow_add-before-in-loop-at : goal.overflow_add-before-in-loop-at
overflow_add-before-in-loop-at c =
    let lines = c.args.lines.now in
    let all = statements_of (traces_of lines) in
    let here : c.loop-at.at < length c.args.group.now = omega (arith, c.len-at-end.ensures, c.loop-at-test.true) in
    let reaches = group-reaches all c.args.group.now c.requires.kept.0 c.args.shown c.loop-at.at c.requires.kept.1 here in
    omega (arith, reaches, statements-length lines, c.requires.few, here)

pub loop-at-preserved : goal.loop-at-preserved
loop-at-preserved c =
    let lines = c.args.lines.now in
    let group = c.args.group.now in
    let at = c.loop-at.at in
    let i = c.args.shown + at in
    let line = c.line.result.now in
    let items = c.items.result.now in
    let here : at < length group = omega (arith, c.len-at-end.ensures, c.loop-at-test.true) in
    let all = statements_of (traces_of lines) in
    let reaches = group-reaches all group c.requires.kept.0 c.args.shown at c.requires.kept.1 here in
    let within : i < length lines = omega (arith, reaches, statements-length lines, here) in
    let is = part-at lines i line within c.line.ensures in
    let there = item-there all group c.requires.kept.0 c.args.shown at items c.requires.kept.1 here (part-at group at items here c.items.ensures) in
    let trace = trace-at lines i line all items within is (λ j. all) there in
    let added = c.in_ok-add.ensures in
    let next : i + 1 ≡ c.args.shown + (at + 1) = omega (arith) in
    record {
      shown = λ before. subst (λ n. IsShown (take n lines) c.add.new.self) next
          (two-more c.add.new.self lines i line within is (added.shown (take i lines) trace (c.loop-at.invariant.shown before) (number-taken lines i within)));
      finals = added.finals ∙ c.loop-at.invariant.finals;
      part = added.part ∙ c.loop-at.invariant.part;
      few = omega (arith, added.few);
    }
