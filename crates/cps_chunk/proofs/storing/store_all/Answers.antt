use Rattle.cps_chunk.proofs.StoringLemmas.{also-none, also-next, also-all}
use Rattle.cps_chunk.proofs.storing.store_all.Goals as goal

pub loop-trace-init : goal.loop-trace-init
loop-trace-init c = also-none c.args.storage.now

pub loop-trace-preserved : goal.loop-trace-preserved
loop-trace-preserved c =
    also-next c.args.storage.now c.loop-trace.storage c.add.new.self c.args.traces.now c.loop-trace.trace-index c.trace-item.result c.loop-trace-test.true c.trace-item.is
    c.loop-trace.invariant c.in_ok-add.ensures.ok

pub returns : goal.returns
returns c = also-all c.args.storage.now c.loop-trace.storage c.args.traces.now c.loop-trace.trace-index c.loop-trace-test.false c.loop-trace.invariant
