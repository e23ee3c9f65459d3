use Rattle.std.proofs.Common.{arith, rules, ◌≡◌, ◌<◌, ◌≤◌, ℕ, List, length, get_or, sym, ap, subst, ◌∙◌}
use Rattle.std.proofs.lemmas.Grind.{common_steps}
use Rattle.cps_state.specs.Keys.{State}
use Rattle.cps_state.specs.Course.{Trace}
use Rattle.cps_state.specs.Work.{counted_on}
use Rattle.cps_final.specs.Changes.{no_change}
use Rattle.cps_final.specs.Code.Kept.{changes_in}
use Rattle.cps_pass.specs.Expansion.{trace_of}
use Rattle.cps_edit.proofs.PassOneLemmas.{none-more}
use Rattle.cps_edit.proofs.ReplayLemmas.{counted-left, counted-before}
use Rattle.cps_chunk.specs.declared.walk.Baseline.{Baseline}
use Rattle.cps_chunk.specs.Code.Walk.{IsBaseline, stood_at}
use Rattle.cps_chunk.proofs.WalkLemmas.{as-long, trace-at}
use Rattle.cps_chunk.proofs.GoLemmas.{got, ended, no-more, count-here, next-news, next-state, next-count}
use Rattle.cps_chunk.proofs.walk.Walk.go_over_from.Goals as goal

-- ---- the line is there

pub bounds-self-at-in-loop-at : goal.bounds-self-at-in-loop-at
bounds-self-at-in-loop-at c =
    let base = c.args.self.now.base in
    omega (arith, as-long base.lines.now base.traces.now c.requires.may.walk.base.did, ap (λ (b : Baseline). length b.traces.now) c.loop-at.invariant.base, c.requires.may.within)

pub offset_bounds-self-at-in-loop-at : goal.offset_bounds-self-at-in-loop-at
offset_bounds-self-at-in-loop-at c =
    let base = c.args.self.now.base in
    let lt : c.loop-at.at < length c.loop-at.self.base.traces.now =
    omega (arith, as-long base.lines.now base.traces.now c.requires.may.walk.base.did, ap (λ (b : Baseline). length b.traces.now) c.loop-at.invariant.base, c.requires.may.within) in
    first_of (search rules, omega arith, grind (arith, common_steps))

pub past_of-past-requires-clause-base : goal.past_of-past-requires-clause-base
past_of-past-requires-clause-base c = subst IsBaseline (sym c.loop-at.invariant.base) c.requires.may.walk.base

pub go_over-requires-clause-did : goal.go_over-requires-clause-did
go_over-requires-clause-did c =
    let base = c.args.self.now.base in
    let at = c.loop-at.at in
    let now = c.loop-at.self.base in
    let lines : now.lines.now ≡ base.lines.now = ap (λ (b : Baseline). b.lines.now) c.loop-at.invariant.base in
    let traces : now.traces.now ≡ base.traces.now = ap (λ (b : Baseline). b.traces.now) c.loop-at.invariant.base in
    let line : List ℕ = get_or now.lines.now at c.index-self-at.result in
    let t : Trace = get_or now.traces.now at c.index-self-at-in-loop-at.result in
    let one : at < length base.lines.now = omega (arith, c.loop-at-test.true, c.requires.may.within) in
    let two : at < length base.traces.now = omega (arith, one, as-long base.lines.now base.traces.now c.requires.may.walk.base.did) in
    trace-at base.lines.now base.traces.now c.requires.may.walk.base.did at line t one two
    (got now.lines.now base.lines.now at c.index-self-at.result lines c.index-self-at.is)
    (got now.traces.now base.traces.now at c.index-self-at-in-loop-at.result traces c.index-self-at-in-loop-at.is)
    ∙ ap (λ (s : State). trace_of line s) (sym (c.past_of-past.ensures ∙ ap (λ (b : Baseline). stood_at b at) c.loop-at.invariant.base))

-- ---- nothing is changed any more

pub returns-then-is_empty-clause-over : goal.returns-then-is_empty-clause-over
returns-then-is_empty-clause-over c =
    let le : c.loop-at.at ≤ c.args.to = omega (arith, c.loop-at-test.true) in
    let none : changes_in c.loop-at.self.replay.log.changes ≡ no_change =
    ap changes_in (sym c.changes.ensures) ∙ c.is_empty.ensures.changes (search rules) in
    let inv = c.loop-at.invariant in
    ended c.args.self.now c.loop-at.self c.args.from c.loop-at.at c.args.to c.requires.may.walk.base le none inv.base inv.news inv.state inv.present

pub returns-then-is_empty-clause-steps : goal.returns-then-is_empty-clause-steps
returns-then-is_empty-clause-steps c =
    let le : c.loop-at.at ≤ c.args.to = omega (arith, c.loop-at-test.true) in
    let none : changes_in c.loop-at.self.replay.log.changes ≡ no_change =
    ap changes_in (sym c.changes.ensures) ∙ c.is_empty.ensures.changes (search rules) in
    let inv = c.loop-at.invariant in
    let rest = ap length (no-more c.args.self.now c.loop-at.self c.args.from c.loop-at.at c.args.to c.requires.may.walk.base le none) in
    let ones = none-more c.loop-at.work.ones ∙ ap (counted_on c.loop-at.work.ones) (sym rest) ∙ inv.ones in
    record {
      ones = ones;
      twos = omega (arith, inv.twos);
      ones_least = inv.ones_least;
      twos_least = omega (arith, inv.twos);
      ones_most = omega (arith, ones);
      twos_most = omega (arith, inv.twos);
    }

-- ---- one line more

pub returns-in_err-go_over-clause-steps : goal.returns-in_err-go_over-clause-steps
returns-in_err-go_over-clause-steps c =
    let base = c.args.self.now.base in
    let at = c.loop-at.at in
    let now = c.loop-at.self.base in
    let inv = c.loop-at.invariant in
    let lines : now.lines.now ≡ base.lines.now = ap (λ (b : Baseline). b.lines.now) inv.base in
    let traces : now.traces.now ≡ base.traces.now = ap (λ (b : Baseline). b.traces.now) inv.base in
    let count = count-here base.lines.now base.traces.now c.requires.may.walk.base.did at c.args.to c.loop-at-test.true c.requires.may.within _ _
    (got now.lines.now base.lines.now at c.index-self-at.result lines c.index-self-at.is)
    (got now.traces.now base.traces.now at c.index-self-at-in-loop-at.result traces c.index-self-at-in-loop-at.is) _
    (c.past_of-past.ensures ∙ ap (λ (b : Baseline). stood_at b at) inv.base) c.loop-at.self.replay.log in
    record {
      ones = search rules;
      twos = search rules;
      ones_least = omega (arith, inv.ones_least, c.in_err-go_over.ensures.steps.ones_least);
      twos_least = omega (arith, inv.twos, c.in_err-go_over.ensures.steps.twos_least);
      ones_most = counted-before c.loop-at.work.ones c.go_over.new.work.ones _ _ _ _ c.in_err-go_over.ensures.steps.ones_most count inv.ones;
      twos_most = omega (arith, inv.twos, c.in_err-go_over.ensures.steps.twos_most);
    }

pub loop-at-preserved : goal.loop-at-preserved
loop-at-preserved c =
    let base = c.args.self.now.base in
    let at = c.loop-at.at in
    let now = c.loop-at.self.base in
    let inv = c.loop-at.invariant in
    let new = c.in_ok-go_over.ensures in
    let lines : now.lines.now ≡ base.lines.now = ap (λ (b : Baseline). b.lines.now) inv.base in
    let traces : now.traces.now ≡ base.traces.now = ap (λ (b : Baseline). b.traces.now) inv.base in
    let line = got now.lines.now base.lines.now at c.index-self-at.result lines c.index-self-at.is in
    let trace = got now.traces.now base.traces.now at c.index-self-at-in-loop-at.result traces c.index-self-at-in-loop-at.is in
    let stood = c.past_of-past.ensures ∙ ap (λ (b : Baseline). stood_at b at) inv.base in
    let did = c.requires.may.walk.base.did in
    let log = c.loop-at.self.replay.log in
    record {
      news = next-news base.lines.now base.traces.now did at c.args.to c.loop-at-test.true c.requires.may.within _ _ line trace _ stood log c.go_over.new.self.log new.state _ _ _ new.news inv.news;
      state = next-state base.lines.now base.traces.now did at c.args.to c.loop-at-test.true c.requires.may.within _ _ line trace _ stood log c.go_over.new.self.log new.state _ inv.state;
      present = new.present;
      base = inv.base;
      chunks = inv.chunks;
      ones = counted-left c.loop-at.work.ones c.go_over.new.work.ones _ _ _ _ new.steps.ones
          (next-count base.lines.now base.traces.now did at c.args.to c.loop-at-test.true c.requires.may.within _ _ line trace _ stood log c.go_over.new.self.log new.state) inv.ones;
      ones_least = omega (arith, inv.ones_least, new.steps.ones_least);
      twos = omega (arith, inv.twos, new.steps.twos_least, new.steps.twos_most);
      looked = omega (arith, inv.looked, new.looked);
      looked_least = omega (arith, inv.looked_least, new.looked);
    }
