use Rattle.std.proofs.Common.{arith, rules, false, ◌≡◌, ◌+◌, List, sym, ap, subst, ◌∙◌}
use Rattle.cps_state.specs.Course.{Trace}
use Rattle.cps_final.specs.declared.changes.Changes.{Changes}
use Rattle.cps_final.specs.Changes.{agreed}
use Rattle.cps_final.specs.Code.Kept.{changes_in}
use Rattle.cps_final.specs.Layout.{puts_of}
use Rattle.cps_chunk.specs.Code.Chunk.{IsChunkOf}
use Rattle.cps_chunk.proofs.WalkLemmas.{chunk-at, lengths-grow, lengths-within}
use Rattle.cps_chunk.proofs.walk.Walk.agree.Goals as goal

pub part-traces-requires-clause-ordered : goal.part-traces-requires-clause-ordered
part-traces-requires-clause-ordered c =
    omega (arith, c.requires.cursor.line, c.requires.end, lengths-grow c.args.self.now.chunks.items c.args.cursor.chunk)

pub part-traces-requires-clause-within : goal.part-traces-requires-clause-within
part-traces-requires-clause-within c =
    let walk = c.args.self.now in
    omega (arith, c.requires.end, lengths-within walk.base.hashing walk.chunks.items walk.base.traces.now (c.args.cursor.chunk + 1) c.requires.walk.chunks)

pub may_put-requires : goal.may_put-requires
may_put-requires c =
    let walk = c.args.self.now in
    subst (λ (us : List Trace). IsChunkOf walk.base.hashing us c.index.result.now) (sym c.part-traces.ensures)
    (chunk-at walk.base.hashing walk.chunks.items walk.base.traces.now c.args.cursor.chunk c.args.cursor.line c.args.end c.index.result.now c.requires.within c.index.ensures
    c.requires.cursor.line c.requires.end c.requires.walk.chunks)

pub returns-then-not-may_put-clause-changes : goal.returns-then-not-may_put-clause-changes
returns-then-not-may_put-clause-changes c =
    let out : c.may_put.result ≡ false = search rules in
    let none = c.may_put.ensures out in
    sym (ap (λ (ts : List Trace). agreed (changes_in c.args.self.now.replay.log.changes) (puts_of ts)) (sym c.part-traces.ensures)
    ∙ ap (λ (now : Changes). agreed (changes_in now) (puts_of c.part-traces.result.now)) (sym c.changes.ensures) ∙ none ∙ ap changes_in c.changes.ensures)

pub returns-clause-changes : goal.returns-clause-changes
returns-clause-changes c =
    c.agree_all.ensures.changes ∙ ap (λ (ts : List Trace). agreed (changes_in c.args.self.now.replay.log.changes) (puts_of ts)) c.part-traces.ensures
