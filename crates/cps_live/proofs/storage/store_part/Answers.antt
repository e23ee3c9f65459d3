use Rattle.std.proofs.Common.{List, OnOk, subst}
use Rattle.cps_state.specs.Course.{Trace}
use Rattle.cps_chunk.specs.Code.Storing.{StoresAlso}
use Rattle.cps_chunk.specs.Sparse.{renewed}
use Rattle.cps_chunk.proofs.StoringLemmas.{also-none}
use Rattle.cps_live.proofs.StoreLemmas.{done-here, done-none}
use Rattle.cps_live.proofs.storage.store_part.Goals as goal

pub returns-then-run-at-2-clause-stores : goal.returns-then-run-at-2-clause-stores
returns-then-run-at-2-clause-stores c =
    subst (λ (ts : List Trace). OnOk c.store_chunk.result (StoresAlso c.args.storage.now c.store_chunk.new.storage ts))
    (done-here c.args.base c.args.run c.args.at c.args.chunk.now.lines c.if-run-at.true c.if-run-at-2.true) c.store_chunk.ensures.stores

pub returns-then-run-clause-stores : goal.returns-then-run-clause-stores
returns-then-run-clause-stores c =
    subst (λ (ts : List Trace). StoresAlso c.args.storage.now c.args.storage.now ts) (done-none c.args.base c.args.run c.if-run.true) (also-none c.args.storage.now)

pub returns-clause-stores : goal.returns-clause-stores
returns-clause-stores c =
    subst (λ (ts : List Trace). OnOk c.store_renewed.result (StoresAlso c.args.storage.now c.store_renewed.new.storage (renewed c.args.run.from c.args.run.news.now ts)))
    c.part-olds.ensures c.store_renewed.ensures
