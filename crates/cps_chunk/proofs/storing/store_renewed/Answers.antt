use Rattle.std.proofs.Common.{refl}
use Rattle.cps_chunk.specs.Sparse.{renewed}
use Rattle.cps_chunk.proofs.StoringLemmas.{some-none, some-next, some-all, on_ok}
use Rattle.cps_chunk.proofs.storing.store_renewed.Goals as goal

pub loop-new-init : goal.loop-new-init
loop-new-init c = some-none c.args.storage.now c.args.storage.now c.args.from c.args.olds.now c.args.news.now c.requires refl

pub loop-new-preserved : goal.loop-new-preserved
loop-new-preserved c =
    let whole = renewed c.args.from c.args.news.now c.args.olds.now in
    some-next c.args.storage.now c.add.new.self c.args.from c.args.olds.now c.loop-new.storage c.store_all.new.storage whole c.loop-new.done c.loop-new.new-index c.new-item.result
    c.args.news.now c.loop-new-test.true c.new-item.is c.loop-new.invariant c.in_ok-store_all.ensures c.in_ok-add.ensures.ok

pub returns : goal.returns
returns c =
    let whole = renewed c.args.from c.args.news.now c.args.olds.now in
    on_ok c.store_all-2.result
    (some-all c.args.storage.now c.store_all-2.new.storage c.args.from c.args.olds.now c.loop-new.storage whole c.loop-new.done c.loop-new.new-index c.args.news.now
    c.loop-new-test.false c.loop-new.invariant)
    c.store_all-2.ensures
