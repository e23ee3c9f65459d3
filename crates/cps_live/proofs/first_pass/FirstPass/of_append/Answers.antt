use Rattle.std.proofs.Common.{arith, rules, ◌≡◌, [], length, refl, ap, sym, subst, ◌∙◌}
use Rattle.cps_state.specs.Keys.{first_state}
use Rattle.cps_final.specs.Changes.{changed, no_change}
use Rattle.cps_final.specs.Code.Kept.{changes_in}
use Rattle.cps_final.specs.Layout.{puts_of}
use Rattle.cps_edit.specs.Disturbed.{ones_of}
use Rattle.cps_edit.specs.Passes.{state_after, traces_from}
use Rattle.cps_edit.specs.Splice.{Splice, splice_at}
use Rattle.cps_chunk.specs.Noted.{noted}
use Rattle.cps_live.specs.Code.Editing.{IsFirstPass, splice_of}
use Rattle.cps_live.proofs.FirstPassLemmas.{closed-state, front-all, ones-last, replayed-last, spliced-last}
use Rattle.cps_live.proofs.first_pass.FirstPass.of_append.Goals as goal

pub returns-in_err-entered-clause-steps : goal.returns-in_err-entered-clause-steps
returns-in_err-entered-clause-steps c =
    let lines = c.args.base.lines.now in
    let cut = c.args.cut.now in
    let s = c.in_err-entered.ensures.steps in
    let count = ones-last lines cut.lines.items in
    let same : ones_of lines (splice_of cut) ≡ ones_of lines (splice_at (length lines) (length lines) cut.lines.items) =
    λ i. ones_of lines (splice_at (c.requires.last.0 i) (c.requires.last.1 i) cut.lines.items) in
    let new = ap length c.deref.ensures.value in
    record {
      ones = search rules;
      twos = search rules;
      ones_least = s.ones_least;
      twos_least = s.twos_least;
      ones_most = omega (arith, s.ones_most, count, same, new);
      twos_most = s.twos_most;
    }

pub returns-in_err-close-clause-steps : goal.returns-in_err-close-clause-steps
returns-in_err-close-clause-steps c =
    let lines = c.args.base.lines.now in
    let cut = c.args.cut.now in
    let s = c.in_ok-entered.ensures.steps in
    let count = ones-last lines cut.lines.items in
    let same : ones_of lines (splice_of cut) ≡ ones_of lines (splice_at (length lines) (length lines) cut.lines.items) =
    λ i. ones_of lines (splice_at (c.requires.last.0 i) (c.requires.last.1 i) cut.lines.items) in
    let new = ap length c.deref.ensures.value in
    record {
      ones = search rules;
      twos = search rules;
      ones_least = s.ones_least;
      twos_least = s.twos_least;
      ones_most = omega (arith, s.ones_most, count, same, new);
      twos_most = s.twos_most;
    }

pub returns-clause-pass : goal.returns-clause-pass
returns-clause-pass c =
    let lines = c.args.base.lines.now in
    let cut = c.args.cut.now in
    let new = c.in_ok-entered.ensures in
    let last : splice_of cut ≡ splice_at (length lines) (length lines) cut.lines.items = (λ i. splice_at (c.requires.last.0 i) (c.requires.last.1 i) cut.lines.items) in
    let does : c.in_ok-entered.entered.items ≡ traces_from (state_after first_state lines) cut.lines.items =
    new.traces ∙ (λ i. traces_from (changed (c.new-replay.ensures.changes i) (c.requires.state i)) (c.deref.ensures.value i)) in
    let none : changes_in c.enter_all.new.self.log.changes ≡ no_change = ap changes_in new.changes ∙ c.new-replay.ensures.changes in
    let closed = c.in_ok-close.ensures.changes (puts_of c.in_ok-entered.entered.items) new.puts in
    let noted_there = closed ∙ (λ i. noted (none i) (c.requires.state i) [] (puts_of c.in_ok-entered.entered.items)) in
    let made = c.of_parts.ensures in
    subst (λ (splice : Splice). IsFirstPass lines splice c.of_parts.result) (sym last)
    record {
      traces = record {
        entered = ap (λ traces. traces.items) made.entered ∙ does ∙ ap (λ f. traces_from f cut.lines.items) (sym (front-all lines cut.lines.items));
        renewed = ap (λ news. news.items) (made.renewed ∙ c.close.ensures.news ∙ c.enter_all.ensures.news) ∙ c.new-replay.ensures.news ∙ sym (replayed-last lines cut.lines.items);
      };
      state = ap (λ changes. changed (changes_in changes) (state_after first_state lines)) made.changes
          ∙ closed-state (state_after first_state lines) [] cut.lines.items (state_after first_state lines) (changes_in c.close.new.self.log.changes) c.in_ok-entered.entered.items refl does noted_there
          ∙ sym (spliced-last lines cut.lines.items);
    }

pub returns-clause-steps : goal.returns-clause-steps
returns-clause-steps c =
    let lines = c.args.base.lines.now in
    let cut = c.args.cut.now in
    let s = c.in_ok-entered.ensures.steps in
    let count = ones-last lines cut.lines.items in
    let same : ones_of lines (splice_of cut) ≡ ones_of lines (splice_at (length lines) (length lines) cut.lines.items) =
    λ i. ones_of lines (splice_at (c.requires.last.0 i) (c.requires.last.1 i) cut.lines.items) in
    let new = ap length c.deref.ensures.value in
    record {
      ones = omega (arith, s.ones, count, same, new);
      twos = s.twos;
      ones_least = s.ones_least;
      twos_least = s.twos_least;
      ones_most = omega (arith, s.ones_most, count, same, new);
      twos_most = s.twos_most;
    }
