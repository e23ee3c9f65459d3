use Rattle.std.proofs.Common.{arith, rules, ◌≡◌, ◌+◌, ◌<◌, ℕ, List, [], ◌∷◌, ◌++◌, length, get_or, take, refl, sym, ap, subst, ◌∙◌}
use Rattle.std.proofs.lemmas.Grind.{common_steps}
use Rattle.std.specs.Prelude.{Some as Just, if◌then◌else◌}
use Rattle.cps_state.specs.Keys.{State, first_state}
use Rattle.cps_state.specs.Course.{Trace}
use Rattle.cps_pass.specs.Expansion.{trace_of}
use Rattle.cps_edit.specs.Disturbed.{is_disturbed}
use Rattle.cps_edit.specs.Passes.{state_after}
use Rattle.cps_chunk.specs.declared.walk.Baseline.{Baseline}
use Rattle.cps_chunk.specs.contracts.state_before.StateBeforeLookup.TheImpl.{answer-value}
use Rattle.cps_chunk.specs.declared.walk.Destination.TheVariants.{Behind}
use Rattle.cps_chunk.specs.declared.walk.Walk.{Walk}
use Rattle.cps_chunk.specs.Code.Along.{front_at}
use Rattle.cps_chunk.specs.Code.Replay.{PutsAlso, now_with}
use Rattle.cps_chunk.specs.Replayed.{replayed}
use Rattle.cps_chunk.specs.Code.Walk.{IsBaseline}
use Rattle.cps_chunk.proofs.AlongLemmas.{along-count, along-join, carried-line, line-count, line-within}
use Rattle.cps_chunk.proofs.CountingLemmas.{counted-most, counted-next, looked-next}
use Rattle.cps_chunk.proofs.GoLemmas.{got}
use Rattle.cps_chunk.proofs.WalkLemmas.{as-long, trace-at}
use Rattle.cps_chunk.proofs.walk.Walk.carry_lines.Goals as goal

-- ---- the line is there

pub bounds-self-at-in-loop-at : goal.bounds-self-at-in-loop-at
bounds-self-at-in-loop-at c =
    let base = c.args.self.now.base in
    omega (arith, as-long base.lines.now base.traces.now c.requires.walk.base.did, ap (λ (b : Baseline). length b.traces.now) c.loop-at.invariant.base, c.requires.lines.within)

pub offset_bounds-self-at-in-loop-at : goal.offset_bounds-self-at-in-loop-at
offset_bounds-self-at-in-loop-at c =
    let base = c.args.self.now.base in
    let lt : c.loop-at.at < length c.loop-at.self.base.traces.now =
    omega (arith, as-long base.lines.now base.traces.now c.requires.walk.base.did, ap (λ (b : Baseline). length b.traces.now) c.loop-at.invariant.base, c.requires.lines.within) in
    first_of (search rules, omega arith, grind (arith, common_steps))

pub past_of-past-requires-clause-base : goal.past_of-past-requires-clause-base
past_of-past-requires-clause-base c = subst IsBaseline (sym c.loop-at.invariant.base) c.requires.walk.base

pub carry-requires : goal.carry-requires
carry-requires c =
    let at = c.loop-at.at in
    let now = c.loop-at.self.base in
    let base : IsBaseline now = subst IsBaseline (sym c.loop-at.invariant.base) c.requires.walk.base in
    let one : at < length now.lines.now = omega (arith, c.loop-at-test.true, c.requires.lines.within, ap (λ (b : Baseline). length b.lines.now) c.loop-at.invariant.base) in
    let two : at < length now.traces.now = omega (arith, one, as-long now.lines.now now.traces.now base.did) in
    record {
      meant = (
        state_after first_state (take at now.lines.now),
        trace-at now.lines.now now.traces.now base.did at _ _ one two
            (got now.lines.now now.lines.now at c.index-self-at.result refl c.index-self-at.is)
            (got now.traces.now now.traces.now at c.index-self-at-in-loop-at.result refl c.index-self-at-in-loop-at.is),
      );
    }

pub returns-in_err-carry-clause-steps : goal.returns-in_err-carry-clause-steps
returns-in_err-carry-clause-steps c =
    let old = c.args.self.now in
    let mid = c.loop-at.self in
    let at = c.loop-at.at in
    let place = c.args.place in
    let lines = c.args.lines in
    let inv = c.loop-at.invariant in
    let now = mid.base in
    let base : IsBaseline now = subst IsBaseline (sym inv.base) c.requires.walk.base in
    let size = ap (λ (b : Baseline). length b.lines.now) inv.base in
    let one : at < length now.lines.now = omega (arith, c.loop-at-test.true, c.requires.lines.within, size) in
    let new = c.in_err-carry.ensures.steps in
    let stood = c.past_of-past.ensures in
    let parts = along-count old mid (Behind place) lines.from at lines.to c.requires.walk.base inv.base (omega (arith, c.loop-at-test.true)) (omega (arith, c.loop-at-test.true)) c.requires.lines.within inv.along in
    let line : List ℕ = get_or now.lines.now at c.index-self-at.result in
    let t : Trace = get_or now.traces.now at c.index-self-at-in-loop-at.result in
    let some = line-within mid mid place at refl line t one base
    (got now.lines.now now.lines.now at c.index-self-at.result refl c.index-self-at.is)
    (got now.traces.now now.traces.now at c.index-self-at-in-loop-at.result refl c.index-self-at-in-loop-at.is) lines.to (omega (arith, c.loop-at-test.true)) (omega (arith, c.requires.lines.within, size)) in
    let here : ◌≡◌ {A = ℕ} (if is_disturbed (Just t) (now_with mid.replay.log (answer-value.it c.past_of-past.result)) then 1 else 0) (if is_disturbed (Just t) (front_at mid (Behind place) at) then 1 else 0) =
    ap (λ (s : State). if is_disturbed (Just t) (now_with mid.replay.log s) then 1 else 0) stood in
    record {
      ones = search rules;
      twos = search rules;
      ones_least = omega (arith, inv.ones_least, new.ones_least);
      twos_least = omega (arith, inv.twos, new.twos_least);
      ones_most = counted-most _ _ _ _ _ _ inv.ones new.ones_most (omega (arith, parts, some, here));
      twos_most = omega (arith, inv.twos, new.twos_most);
    }

pub loop-at-preserved : goal.loop-at-preserved
loop-at-preserved c =
    let old = c.args.self.now in
    let mid = c.loop-at.self in
    let at = c.loop-at.at in
    let place = c.args.place in
    let lines = c.args.lines in
    let inv = c.loop-at.invariant in
    let now = mid.base in
    let base : IsBaseline now = subst IsBaseline (sym inv.base) c.requires.walk.base in
    let size = ap (λ (b : Baseline). length b.lines.now) inv.base in
    let one : at < length now.lines.now = omega (arith, c.loop-at-test.true, c.requires.lines.within, size) in
    let new = c.in_ok-carry.ensures in
    let stood = c.past_of-past.ensures in
    let line : List ℕ = get_or now.lines.now at c.index-self-at.result in
    let t : Trace = get_or now.traces.now at c.index-self-at-in-loop-at.result in
    let is_line = got now.lines.now now.lines.now at c.index-self-at.result refl c.index-self-at.is in
    let is_trace = got now.traces.now now.traces.now at c.index-self-at-in-loop-at.result refl c.index-self-at-in-loop-at.is in
    let walk : Walk = record { base = mid.base; chunks = mid.chunks; replay = c.carry.new.self } in
    let second = carried-line mid walk place at refl line t one base is_line is_trace
    (new.news ∙ ap (λ (s : State). mid.replay.news.items ++ replayed (now_with mid.replay.log s) at (line ∷ []) (t ∷ [])) stood)
    (subst (λ (s : State). PutsAlso mid.replay.log c.carry.new.self.log (trace_of line (now_with mid.replay.log s)).puts) stood new.puts) in
    let parts = along-count old mid (Behind place) lines.from at (at + 1) c.requires.walk.base inv.base (omega (arith, c.loop-at-test.true)) (omega arith) (omega (arith, c.loop-at-test.true, c.requires.lines.within)) inv.along in
    let count = line-count mid walk place at refl line t one base is_line is_trace in
    let here : ◌≡◌ {A = ℕ} (if is_disturbed (Just t) (now_with mid.replay.log (answer-value.it c.past_of-past.result)) then 1 else 0) (if is_disturbed (Just t) (front_at mid (Behind place) at) then 1 else 0) =
    ap (λ (s : State). if is_disturbed (Just t) (now_with mid.replay.log s) then 1 else 0) stood in
    record {
      along = along-join old mid walk (Behind place) lines.from at (at + 1) c.requires.walk.base inv.base (omega (arith, c.loop-at-test.true)) (omega arith) (omega (arith, c.loop-at-test.true, c.requires.lines.within)) inv.along second;
      base = inv.base;
      chunks = inv.chunks;
      ones = counted-next _ _ _ _ _ _ inv.ones new.steps.ones (omega (arith, parts, count, here));
      ones_least = omega (arith, inv.ones_least, new.steps.ones_least);
      twos = omega (arith, inv.twos, new.steps.twos_least, new.steps.twos_most);
      looked = looked-next _ _ _ _ _ inv.looked new.looked (omega (arith, c.loop-at-test.true));
      looked_least = omega (arith, inv.looked_least, new.looked);
    }
