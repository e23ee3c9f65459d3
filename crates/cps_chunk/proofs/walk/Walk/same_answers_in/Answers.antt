use Rattle.std.proofs.Common.{arith, rules, ◌≡◌, ◌+◌, List, false, refl, sym, subst, ◌∙◌}
use Rattle.cps_state.specs.Course.{Trace}
use Rattle.cps_final.specs.Code.Kept.{changes_in}
use Rattle.cps_final.specs.Run.{run_of}
use Rattle.cps_chunk.specs.Noted.{stands}
use Rattle.cps_chunk.specs.Code.Chunk.{IsChunkOf}
use Rattle.cps_chunk.proofs.WalkLemmas.{chunk-at, chunk-set, lengths-set, lengths-grow, lengths-within}
use Rattle.cps_chunk.proofs.walk.Walk.same_answers_in.Goals as goal

pub part-traces-requires-clause-ordered : goal.part-traces-requires-clause-ordered
part-traces-requires-clause-ordered c =
    omega (arith, c.requires.cursor.line, c.requires.end, lengths-grow c.args.self.now.chunks.items c.args.cursor.chunk)

pub part-traces-requires-clause-within : goal.part-traces-requires-clause-within
part-traces-requires-clause-within c =
    let walk = c.args.self.now in
    omega (arith, c.requires.end, lengths-within walk.base.hashing walk.chunks.items walk.base.traces.now (c.args.cursor.chunk + 1) c.requires.walk.chunks)

pub may_ask-requires : goal.may_ask-requires
may_ask-requires c =
    let walk = c.args.self.now in
    let d = c.index_mut-chunk.result.now in
    subst (λ (us : List Trace). IsChunkOf walk.base.hashing us d) (sym c.part-traces.ensures)
    (chunk-at walk.base.hashing walk.chunks.items walk.base.traces.now c.args.cursor.chunk c.args.cursor.line c.args.end d c.requires.within c.index_mut-chunk.ensures.value
    c.requires.cursor.line c.requires.end c.requires.walk.chunks)

pub returns-then-not-may_ask-clause-same : goal.returns-then-not-may_ask-clause-same
returns-then-not-may_ask-clause-same c =
    let out : c.may_ask.result ≡ false = search rules in
    sym ((λ i. stands (changes_in (sym c.changes.ensures i)) (run_of (sym c.part-traces.ensures i)).asks) ∙ c.may_ask.ensures out)

pub returns-then-not-may_ask-clause-walk : goal.returns-then-not-may_ask-clause-walk
returns-then-not-may_ask-clause-walk c =
    let walk = c.args.self.now in
    let d = c.index_mut-chunk.result.now in
    let is = chunk-at walk.base.hashing walk.chunks.items walk.base.traces.now c.args.cursor.chunk c.args.cursor.line c.args.end d c.requires.within c.index_mut-chunk.ensures.value
    c.requires.cursor.line c.requires.end c.requires.walk.chunks in
    record {
      base = c.requires.walk.base;
      chunks = chunk-set walk.base.hashing walk.chunks.items walk.base.traces.now _ c.args.cursor.chunk c.args.cursor.line c.args.end d d c.requires.within c.index_mut-chunk.ensures.value refl
          c.requires.cursor.line c.requires.end refl is c.requires.walk.chunks;
    }

pub gather_run-requires : goal.gather_run-requires
gather_run-requires c =
    let walk = c.args.self.now in
    let d = c.index_mut-chunk.result.now in
    subst (λ (us : List Trace). IsChunkOf walk.base.hashing us d) (sym c.part-traces.ensures)
    (chunk-at walk.base.hashing walk.chunks.items walk.base.traces.now c.args.cursor.chunk c.args.cursor.line c.args.end d c.requires.within c.index_mut-chunk.ensures.value
    c.requires.cursor.line c.requires.end c.requires.walk.chunks)

pub returns-in_err-gather_run-clause-walk : goal.returns-in_err-gather_run-clause-walk
returns-in_err-gather_run-clause-walk c =
    let walk = c.args.self.now in
    record {
      base = c.requires.walk.base;
      chunks = chunk-set walk.base.hashing walk.chunks.items walk.base.traces.now c.part-traces.result.now c.args.cursor.chunk c.args.cursor.line c.args.end c.index_mut-chunk.result.now c.gather_run.new.self
          c.requires.within c.index_mut-chunk.ensures.value c.gather_run.ensures.lines c.requires.cursor.line c.requires.end c.part-traces.ensures c.gather_run.ensures.chunk c.requires.walk.chunks;
    }

pub returns-in_err-gather_run-clause-lengths : goal.returns-in_err-gather_run-clause-lengths
returns-in_err-gather_run-clause-lengths c =
    let walk = c.args.self.now in
    lengths-set walk.base.hashing walk.chunks.items c.args.cursor.chunk c.index_mut-chunk.result.now c.gather_run.new.self c.requires.within c.index_mut-chunk.ensures.value c.gather_run.ensures.lines

pub returns-in-Some-clause-walk : goal.returns-in-Some-clause-walk
returns-in-Some-clause-walk c =
    let walk = c.args.self.now in
    record {
      base = c.requires.walk.base;
      chunks = chunk-set walk.base.hashing walk.chunks.items walk.base.traces.now c.part-traces.result.now c.args.cursor.chunk c.args.cursor.line c.args.end c.index_mut-chunk.result.now c.gather_run.new.self
          c.requires.within c.index_mut-chunk.ensures.value c.gather_run.ensures.lines c.requires.cursor.line c.requires.end c.part-traces.ensures c.gather_run.ensures.chunk c.requires.walk.chunks;
    }

pub returns-in-Some-clause-lengths : goal.returns-in-Some-clause-lengths
returns-in-Some-clause-lengths c =
    let walk = c.args.self.now in
    lengths-set walk.base.hashing walk.chunks.items c.args.cursor.chunk c.index_mut-chunk.result.now c.gather_run.new.self c.requires.within c.index_mut-chunk.ensures.value c.gather_run.ensures.lines
