use Rattle.std.proofs.Common.{◌+◌, ◌<◌, length, take, sym, ap, subst, ◌∙◌}
use Rattle.std.specs.Prelude.{sum}
use Rattle.cps_final.specs.Holds.{holds}
use Rattle.cps_final.specs.Run.{run_of}
use Rattle.cps_chunk.specs.Code.Replay.{now_with}
use Rattle.cps_chunk.specs.Code.Walk.{stood_at, stretch}
use Rattle.cps_chunk.proofs.CarryLemmas.{run-is}
use Rattle.cps_chunk.proofs.WalkLemmas.{chunk-at, same-long}
use Rattle.cps_chunk.proofs.walk.Walk.same_answers_behind.Goals as goal

pub returns-in-Some-clause-holds : goal.returns-in-Some-clause-holds
returns-in-Some-clause-holds c =
    let old = c.args.self.now in
    let new = c.gather_run.new.self in
    let still = c.gather_run.ensures.walk in
    let i = c.args.cursor.chunk in
    let d = c.index.result.now in
    let within : i < length new.chunks.items = subst (λ n. i < n) (sym (same-long old.chunks.items new.chunks.items still.lengths)) c.requires.cursor.within in
    let from = c.requires.cursor.stands.line ∙ ap (λ ns. sum (take i ns)) (sym still.lengths) in
    let to = c.requires.end ∙ ap (λ ns. sum (take (i + 1) ns)) (sym still.lengths) in
    let is = chunk-at new.base.hashing new.chunks.items new.base.traces.now i c.args.cursor.line c.args.end d within c.index.ensures from to still.walk.chunks in
    let gathered = run-is d.run c.in-Some.run' (stretch c.args.cursor.line c.args.end new.base.traces.now) c.in-Some.is is.run in
    let asked = c.asks.ensures ∙ (λ j. (gathered j).asks) in
    c.same_answers.ensures
    ∙ (λ j. holds (asked j) (c.now-now.ensures j))
    ∙ (λ j. holds (run_of (stretch c.args.cursor.line c.args.end new.base.traces.now)).asks (now_with (c.gather_run.ensures.replay j).log (c.past_of-past.ensures j)))
    ∙ (λ j. holds (run_of (stretch c.args.cursor.line c.args.end (still.base j).traces.now)).asks (now_with old.replay.log (stood_at (still.base j) c.args.place)))
