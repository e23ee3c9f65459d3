use Rattle.std.proofs.Common.{arith, ◌≡◌, ◌≤◌, length, refl, take}
use Rattle.cps_chunk.proofs.ChunkLemmas.{chunk-none, chunk-next, chunk-all, lines-taken}
use Rattle.cps_chunk.proofs.chunk.Chunk.of.Goals as goal

pub loop-trace-init : goal.loop-trace-init
loop-trace-init c = chunk-none c.args.hashing _ refl refl refl refl

pub grow-requires : goal.grow-requires
grow-requires c =
    let le : c.loop-trace.trace-index ≤ length c.args.traces.now = omega arith in
    let lines : c.loop-trace.chunk.lines ≡ c.loop-trace.trace-index = lines-taken c.args.hashing c.args.traces.now c.loop-trace.trace-index c.loop-trace.chunk le c.loop-trace.invariant in
    omega arith

pub loop-trace-preserved : goal.loop-trace-preserved
loop-trace-preserved c =
    chunk-next c.args.hashing c.args.traces.now c.loop-trace.trace-index c.trace-item.result c.grow.new.self c.loop-trace-test.true c.trace-item.is
    (c.grow.ensures.chunk (take c.loop-trace.trace-index c.args.traces.now) c.loop-trace.invariant)

pub returns : goal.returns
returns c = chunk-all c.args.hashing c.args.traces.now c.loop-trace.trace-index c.loop-trace.chunk c.loop-trace-test.false c.loop-trace.invariant
