use Rattle.std.proofs.Common.{arith, ◌+◌, List, refl, sym, subst}
use Rattle.cps_state.specs.Course.{Trace}
use Rattle.cps_chunk.specs.Code.Chunk.{IsChunkOf}
use Rattle.cps_chunk.proofs.WalkLemmas.{chunk-at, chunk-set, lengths-set, lengths-grow, lengths-within}
use Rattle.cps_chunk.proofs.walk.Walk.gather_run.Goals as goal

pub part-traces-requires-clause-ordered : goal.part-traces-requires-clause-ordered
part-traces-requires-clause-ordered c =
    omega (arith, c.requires.cursor.stands.line, c.requires.end, lengths-grow c.args.self.now.chunks.items c.args.cursor.chunk)

pub part-traces-requires-clause-within : goal.part-traces-requires-clause-within
part-traces-requires-clause-within c =
    let walk = c.args.self.now in
    omega (arith, c.requires.end, lengths-within walk.base.hashing walk.chunks.items walk.base.traces.now (c.args.cursor.chunk + 1) c.requires.walk.chunks)

pub gather_run-requires : goal.gather_run-requires
gather_run-requires c =
    let walk = c.args.self.now in
    let d = c.index_mut.result.now in
    subst (λ (us : List Trace). IsChunkOf walk.base.hashing us d) (sym c.part-traces.ensures)
    (chunk-at walk.base.hashing walk.chunks.items walk.base.traces.now c.args.cursor.chunk c.args.cursor.line c.args.end d c.requires.cursor.within c.index_mut.ensures.value
    c.requires.cursor.stands.line c.requires.end c.requires.walk.chunks)

pub returns-clause-walk : goal.returns-clause-walk
returns-clause-walk c =
    let walk = c.args.self.now in
    record {
      walk = record {
        base = c.requires.walk.base;
        chunks = chunk-set walk.base.hashing walk.chunks.items walk.base.traces.now c.part-traces.result.now c.args.cursor.chunk c.args.cursor.line c.args.end c.index_mut.result.now c.gather_run.new.self
            c.requires.cursor.within c.index_mut.ensures.value c.gather_run.ensures.lines c.requires.cursor.stands.line c.requires.end c.part-traces.ensures c.gather_run.ensures.chunk c.requires.walk.chunks;
      };
      base = refl;
      lengths = lengths-set walk.base.hashing walk.chunks.items c.args.cursor.chunk c.index_mut.result.now c.gather_run.new.self c.requires.cursor.within c.index_mut.ensures.value c.gather_run.ensures.lines;
    }
