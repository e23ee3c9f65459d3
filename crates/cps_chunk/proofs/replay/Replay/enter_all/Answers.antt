use Rattle.std.proofs.Common.{arith, ◌+◌, ◌++◌, drop, refl, ap, sym, ◌∙◌}
use Rattle.cps_final.specs.Changes.{changed}
use Rattle.cps_final.specs.Layout.{puts_of}
use Rattle.cps_edit.specs.Passes.{traces_from}
use Rattle.cps_chunk.specs.Noted.{last_puts}
use Rattle.cps_chunk.specs.Code.Replay.{now_by, now_with}
use Rattle.cps_chunk.proofs.EnterLemmas.{entered-next, entered-all, puts-push}
use Rattle.cps_chunk.proofs.replay.Replay.enter_all.Goals as goal

pub loop-line-init : goal.loop-line-init
loop-line-init g c =
    let past = g.L.Lookup.answer c.args.past.now in
    let log = c.args.self.now.log in
    let none = c.in_ok-traces.ensures.items in
    record {
      traces = (λ i. none i ++ traces_from (changed (c.requires.present i) (now_by log past)) c.args.lines.now);
      puts = c.requires.present ∙ ap (λ ts. last_puts (puts_of ts)) (sym none);
      changes = refl;
      news = refl;
      ones = omega arith;
      twos = refl;
      looked = refl;
    }

pub loop-line-preserved : goal.loop-line-preserved
loop-line-preserved g c =
    let past = g.L.Lookup.answer c.args.past.now in
    let inv = c.loop-line.invariant in
    let new = c.in_ok-trace.ensures in
    let pushed = c.in_ok-push.ensures.items in
    let done = c.loop-line.traces.items in
    let t = c.in_ok-trace.trace in
    let next = entered-next c.args.lines.now c.loop-line.line-index (now_with c.loop-line.self.log past) done _ inv.traces c.line-item.result t (now_with c.enter.new.self.log past)
    c.loop-line-test.true c.line-item.is new.trace new.state in
    record {
      traces = ap (λ ts. ts ++ traces_from (now_with c.enter.new.self.log past) (drop (c.loop-line.line-index + 1) c.args.lines.now)) pushed ∙ next;
      puts = new.puts (puts_of done) inv.puts ∙ ap last_puts (sym (puts-push done t)) ∙ ap (λ ts. last_puts (puts_of ts)) (sym pushed);
      changes = new.changes ∙ inv.changes;
      news = new.news ∙ inv.news;
      ones = omega (arith, new.steps.ones, inv.ones);
      twos = omega (arith, new.steps.twos, inv.twos);
      looked = new.looked ∙ inv.looked;
    }

pub returns-clause-traces : goal.returns-clause-traces
returns-clause-traces g c = entered-all _ _ _ _ _ c.loop-line.invariant.traces c.loop-line-test.false
