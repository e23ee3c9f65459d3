use Rattle.std.proofs.Common.{◌∷◌, ◌++◌, [], List, true, false, sym, ap, subst, ◌∙◌}
use Rattle.cps_state.specs.declared.key.Put.{Put}
use Rattle.cps_state.specs.declared.trace.Trace.{Trace}
use Rattle.cps_state.specs.Work.{Counts}
use Rattle.cps_final.specs.declared.changes.Changes.{Changes}
use Rattle.cps_final.specs.Changes.{Changed, changed, agreed}
use Rattle.cps_final.specs.Code.Kept.{changes_in}
use Rattle.cps_final.specs.Layout.{puts_of}
use Rattle.cps_pass.specs.Expansion.{trace_of}
use Rattle.cps_edit.specs.Passes.{after}
use Rattle.cps_chunk.specs.declared.change_log.ChangeLog.{ChangeLog}
use Rattle.cps_chunk.specs.Noted.{AreHeld, asked_or, last_puts, noted, stands}
use Rattle.cps_chunk.specs.Code.Replay.{now_by}
use Rattle.cps_chunk.proofs.NotedLemmas.{after-stands}
use Rattle.cps_chunk.proofs.ReplayLemmas.{found-disturbed, held-one, redone-state, redone-trace, replayed-anew, replayed-same, steps-err, steps-none, steps-ok}
use Rattle.cps_chunk.proofs.replay.Replay.go_over.Goals as goal

-- ---- the line stands

pub returns-then-still_stands-clause-news : goal.returns-then-still_stands-clause-news
returns-then-still_stands-clause-news g c =
    let past = g.L.Lookup.answer c.args.past.now in
    let log = c.args.self.now.log in
    let line = c.args.old.line.now in
    let t = c.args.old.trace.now in
    let standing = c.still_stands.ensures.stands ∙ ap (λ (now : Changes). stands (changes_in now) t.asks) c.changes.ensures in
    replayed-same (now_by log past) c.args.old.at line t c.args.self.now.news.items
    (found-disturbed (changes_in log.changes) past line t c.requires.did c.still_stands.result true standing c.if-still_stands.true)

pub returns-then-still_stands-clause-state : goal.returns-then-still_stands-clause-state
returns-then-still_stands-clause-state g c =
    let past = g.L.Lookup.answer c.args.past.now in
    let was = changes_in c.args.self.now.log.changes in
    let line = c.args.old.line.now in
    let t = c.args.old.trace.now in
    let standing = c.still_stands.ensures.stands ∙ ap (λ (now : Changes). stands (changes_in now) t.asks) c.changes.ensures in
    ap (λ (now : Changed). changed now (after past line)) (c.agree.ensures.changes ∙ ap (λ (ps : List Put). agreed was ps) c.puts.ensures)
    ∙ after-stands was past line t c.requires.did (sym standing ∙ c.if-still_stands.true)

pub returns-then-still_stands-clause-steps : goal.returns-then-still_stands-clause-steps
returns-then-still_stands-clause-steps g c =
    let past = g.L.Lookup.answer c.args.past.now in
    let was = changes_in c.args.self.now.log.changes in
    let line = c.args.old.line.now in
    let t = c.args.old.trace.now in
    let standing = c.still_stands.ensures.stands ∙ ap (λ (now : Changes). stands (changes_in now) t.asks) c.changes.ensures in
    steps-none c.args.work.now c.still_stands.new.work (ap (λ (w : Counts). w.ones) c.still_stands.ensures.looked) (ap (λ (w : Counts). w.twos) c.still_stands.ensures.looked)
    _ _ (found-disturbed was past line t c.requires.did c.still_stands.result true standing c.if-still_stands.true)

-- ---- the line is redone

pub returns-in_err-trace-clause-steps : goal.returns-in_err-trace-clause-steps
returns-in_err-trace-clause-steps g c =
    let past = g.L.Lookup.answer c.args.past.now in
    let was = changes_in c.args.self.now.log.changes in
    let line = c.args.old.line.now in
    let t = c.args.old.trace.now in
    let standing = c.still_stands.ensures.stands ∙ ap (λ (now : Changes). stands (changes_in now) t.asks) c.changes.ensures in
    steps-err c.args.work.now c.still_stands.new.work (ap (λ (w : Counts). w.ones) c.still_stands.ensures.looked) (ap (λ (w : Counts). w.twos) c.still_stands.ensures.looked)
    _ c.step.new.work _ _ c.from_residual.ensures.0
    (found-disturbed was past line t c.requires.did c.still_stands.result false standing c.if-still_stands.false) c.step.ensures.steps

pub returns-in_err-put-clause-steps : goal.returns-in_err-put-clause-steps
returns-in_err-put-clause-steps g c =
    let past = g.L.Lookup.answer c.args.past.now in
    let was = changes_in c.args.self.now.log.changes in
    let line = c.args.old.line.now in
    let t = c.args.old.trace.now in
    let standing = c.still_stands.ensures.stands ∙ ap (λ (now : Changes). stands (changes_in now) t.asks) c.changes.ensures in
    steps-err c.args.work.now c.still_stands.new.work (ap (λ (w : Counts). w.ones) c.still_stands.ensures.looked) (ap (λ (w : Counts). w.twos) c.still_stands.ensures.looked)
    _ c.step.new.work _ _ c.from_residual-in_err-put.ensures.0
    (found-disturbed was past line t c.requires.did c.still_stands.result false standing c.if-still_stands.false) c.step.ensures.steps

pub returns-in_err-close-clause-steps : goal.returns-in_err-close-clause-steps
returns-in_err-close-clause-steps g c =
    let past = g.L.Lookup.answer c.args.past.now in
    let was = changes_in c.args.self.now.log.changes in
    let line = c.args.old.line.now in
    let t = c.args.old.trace.now in
    let standing = c.still_stands.ensures.stands ∙ ap (λ (now : Changes). stands (changes_in now) t.asks) c.changes.ensures in
    steps-err c.args.work.now c.still_stands.new.work (ap (λ (w : Counts). w.ones) c.still_stands.ensures.looked) (ap (λ (w : Counts). w.twos) c.still_stands.ensures.looked)
    _ c.step.new.work _ _ c.from_residual-in_err-close.ensures.0
    (found-disturbed was past line t c.requires.did c.still_stands.result false standing c.if-still_stands.false) c.step.ensures.steps

pub returns-in_err-push-clause-steps : goal.returns-in_err-push-clause-steps
returns-in_err-push-clause-steps g c =
    let past = g.L.Lookup.answer c.args.past.now in
    let was = changes_in c.args.self.now.log.changes in
    let line = c.args.old.line.now in
    let t = c.args.old.trace.now in
    let standing = c.still_stands.ensures.stands ∙ ap (λ (now : Changes). stands (changes_in now) t.asks) c.changes.ensures in
    steps-err c.args.work.now c.still_stands.new.work (ap (λ (w : Counts). w.ones) c.still_stands.ensures.looked) (ap (λ (w : Counts). w.twos) c.still_stands.ensures.looked)
    _ c.step.new.work _ _ c.from_residual-in_err-push.ensures.0
    (found-disturbed was past line t c.requires.did c.still_stands.result false standing c.if-still_stands.false) c.step.ensures.steps

pub close-requires : goal.close-requires
close-requires g c =
    let past = g.L.Lookup.answer c.args.past.now in
    subst (λ (ts : List Trace). AreHeld (asked_or c.asks.result.now past) ts) (sym c.from_ref.ensures.value)
    (held-one past c.args.old.line.now c.args.old.trace.now c.asks.result.now c.requires.did c.asks.ensures)

pub returns-clause-news : goal.returns-clause-news
returns-clause-news g c =
    let past = g.L.Lookup.answer c.args.past.now in
    let log = c.args.self.now.log in
    let was = changes_in log.changes in
    let line = c.args.old.line.now in
    let t = c.args.old.trace.now in
    let new = c.in_ok-trace.trace in
    let standing = c.still_stands.ensures.stands ∙ ap (λ (now : Changes). stands (changes_in now) t.asks) c.changes.ensures in
    let is = c.in_ok-trace.ensures.trace ∙ (λ i. trace_of line (changed (c.requires.present i) (changed was (asked_or (c.asks.ensures i) past)))) in
    replayed-anew (now_by log past) c.args.old.at line t c.args.self.now.news.items new _ (redone-trace was past line t new c.requires.did is)
    (found-disturbed was past line t c.requires.did c.still_stands.result false standing c.if-still_stands.false)
    (c.in_ok-push.ensures.items ∙ (λ i. (c.step.ensures.news i).items ++ record { at = c.args.old.at; item = new } ∷ []))

pub returns-clause-state : goal.returns-clause-state
returns-clause-state g c =
    let past = g.L.Lookup.answer c.args.past.now in
    let log = c.args.self.now.log in
    let was = changes_in log.changes in
    let line = c.args.old.line.now in
    let t = c.args.old.trace.now in
    let new = c.in_ok-trace.trace in
    let is = c.in_ok-trace.ensures.trace ∙ (λ i. trace_of line (changed (c.requires.present i) (changed was (asked_or (c.asks.ensures i) past)))) in
    let puts = c.in_ok-put.ensures.puts [] (ap (λ (l : ChangeLog). changes_in l.present) c.step.ensures.log ∙ c.requires.present)
    ∙ ap (λ (ps : List Put). last_puts ps) c.puts-2.ensures in
    let same = c.put.ensures.changes ∙ ap (λ (l : ChangeLog). l.changes) c.step.ensures.log in
    redone-state was _ past line t new c.requires.did is
    (c.in_ok-close.ensures.changes new.puts puts
    ∙ (λ i. noted (changes_in (same i)) (asked_or (c.asks.ensures i) past) (puts_of (c.from_ref.ensures.value i)) new.puts))

pub returns-clause-steps : goal.returns-clause-steps
returns-clause-steps g c =
    let past = g.L.Lookup.answer c.args.past.now in
    let was = changes_in c.args.self.now.log.changes in
    let line = c.args.old.line.now in
    let t = c.args.old.trace.now in
    let standing = c.still_stands.ensures.stands ∙ ap (λ (now : Changes). stands (changes_in now) t.asks) c.changes.ensures in
    steps-ok c.args.work.now c.still_stands.new.work (ap (λ (w : Counts). w.ones) c.still_stands.ensures.looked) (ap (λ (w : Counts). w.twos) c.still_stands.ensures.looked)
    _ c.step.new.work c.in_ok-trace.trace _
    (found-disturbed was past line t c.requires.did c.still_stands.result false standing c.if-still_stands.false) c.in_ok-trace.ensures.steps
