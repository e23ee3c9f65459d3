use Rattle.std.proofs.Common.{◌+◌, ap, sym, ◌∙◌, take, drop, reverse, subst, arith}
use Rattle.cps_final.specs.contracts.finals.FinalsGathered.TheImpl.{gathered-value}
use Rattle.cps_edit.specs.Assembly.{traces_of}
use Rattle.cps_batch.specs.Code.KeptLines.{statements_in}
use Rattle.cps_batch.specs.Code.Passes.{IsShown, statements_of}
use Rattle.cps_batch.proofs.KeptLemmas.{first-group, group-shown, group-within, none-left}
use Rattle.cps_batch.proofs.PassLemmas.{statements-length, two-all}
use Rattle.cps_batch.proofs.passes.show_kept.Goals as goal

pub add_group-requires-clause-kept : goal.add_group-requires-clause-kept
add_group-requires-clause-kept c =
    (statements_in (reverse c.pop.new.self.items), c.loop-group.invariant.left ∙ first-group c.loop-group.left.items c.pop.new.self.items c.in-Some.group c.in-Some.ensures.items)

pub overflow_add-shown : goal.overflow_add-shown
overflow_add-shown c =
    let lines = c.args.lines.now in
    let all = statements_of (traces_of lines) in
    let left = c.loop-group.invariant.left ∙ first-group c.loop-group.left.items c.pop.new.self.items c.in-Some.group c.in-Some.ensures.items in
    let long = statements-length lines in
    let within = group-within all c.in-Some.group (statements_in (reverse c.pop.new.self.items)) c.loop-group.shown left (omega (arith, long, c.loop-group.invariant.within)) in
    omega (arith, within, long, c.len-shown.ensures, c.requires.few)

pub loop-group-preserved : goal.loop-group-preserved
loop-group-preserved c =
    let lines = c.args.lines.now in
    let so = c.loop-group.invariant in
    let all = statements_of (traces_of lines) in
    let left = so.left ∙ first-group c.loop-group.left.items c.pop.new.self.items c.in-Some.group c.in-Some.ensures.items in
    let long = statements-length lines in
    let within = group-within all c.in-Some.group (statements_in (reverse c.pop.new.self.items)) c.loop-group.shown left (omega (arith, long, so.within)) in
    let count = c.len-shown.ensures in
    let added = c.in_ok-add_group.ensures in
    record {
      left = ap (λ n. drop (c.loop-group.shown + n) all) count ∙ group-shown all c.in-Some.group (statements_in (reverse c.pop.new.self.items)) c.loop-group.shown left;
      within = omega (arith, within, long, count);
      shown = subst (λ n. IsShown (take (c.loop-group.shown + n) lines) c.add_group.new.self) (sym count) (added.shown so.shown);
      finals = added.finals ∙ so.finals;
      part = added.part ∙ so.part;
      few = omega (arith, added.few, count);
    }

pub returns-clause-printout : goal.returns-clause-printout
returns-clause-printout c =
    let lines = c.args.lines.now in
    let so = c.loop-group.invariant in
    let none = sym c.loop-group.left.ok.0 ∙ c.in_default.ensures.cases.0 in
    let past = none-left (statements_of (traces_of lines)) c.loop-group.left.items c.loop-group.shown so.left none in
    two-all (gathered-value.it c.args.finals.now) c.loop-group.two c.take_printout.result lines c.loop-group.shown (omega (arith, past, statements-length lines))
    (ap gathered-value.it so.finals) c.take_printout.ensures so.shown
