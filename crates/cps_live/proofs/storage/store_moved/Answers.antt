use Rattle.std.proofs.Common.{arith, ◌≡◌, ◌++◌, [], List, length, sym, subst, ◌∙◌}
use Rattle.cps_state.specs.Course.{Trace}
use Rattle.cps_final.specs.Code.Storage.{IsStored}
use Rattle.cps_chunk.specs.Code.Walk.{stretch}
use Rattle.cps_chunk.specs.Sparse.{renewed}
use Rattle.cps_live.proofs.ExchangeLemmas.{runs-within}
use Rattle.cps_live.proofs.MovedStorageLemmas.{behind-places, first-places, runs-moved, second-places}
use Rattle.cps_live.proofs.StoreLemmas.{still-all, still-more}
use Rattle.cps_live.proofs.storage.store_moved.Goals as goal

pub store_run-requires-clause-run : goal.store_run-requires-clause-run
store_run-requires-clause-run c =
    let within = runs-within c.requires.runs in
    record { ordered = omega arith; within = omega (arith, within.first, within.second, within.all); news = omega arith }

pub store_run-requires-2-clause-chunks : goal.store_run-requires-2-clause-chunks
store_run-requires-2-clause-chunks c = still-all c.args.base c.args.chunks.now _ c.requires.chunks c.store_run.ensures.chunks

pub store_run-requires-2-clause-run : goal.store_run-requires-2-clause-run
store_run-requires-2-clause-run c =
    let within = runs-within c.requires.runs in
    let split = c.split_before.ensures in
    let more = c.split_before-2.ensures in
    record {
      ordered = within.second;
      within = within.all;
      news = second-places c.args.exchange c.args.base.traces.now c.args.news.now within _ _ _ _ c.requires.places split.before split.from more.before more.from;
    }

pub returns-in_err-store_run-2-clause-chunks : goal.returns-in_err-store_run-2-clause-chunks
returns-in_err-store_run-2-clause-chunks c = still-more c.args.base c.args.chunks.now _ _ c.store_run.ensures.chunks c.store_run-2.ensures.chunks

pub store_run-requires-3-clause-chunks : goal.store_run-requires-3-clause-chunks
store_run-requires-3-clause-chunks c =
    still-all c.args.base c.args.chunks.now _ c.requires.chunks (still-more c.args.base c.args.chunks.now _ _ c.store_run.ensures.chunks c.store_run-2.ensures.chunks)

pub store_run-requires-3-clause-run : goal.store_run-requires-3-clause-run
store_run-requires-3-clause-run c =
    let within = runs-within c.requires.runs in
    let split = c.split_before.ensures in
    let more = c.split_before-2.ensures in
    record {
      ordered = within.first;
      within = omega (arith, within.second, within.all);
      news = first-places c.args.exchange c.args.base.traces.now c.args.news.now within _ _ _ _ c.requires.places split.before split.from more.before more.from;
    }

pub returns-in_err-store_run-3-clause-chunks : goal.returns-in_err-store_run-3-clause-chunks
returns-in_err-store_run-3-clause-chunks c =
    still-more c.args.base c.args.chunks.now _ _ (still-more c.args.base c.args.chunks.now _ _ c.store_run.ensures.chunks c.store_run-2.ensures.chunks) c.store_run-3.ensures.chunks

pub store_run-requires-4-clause-chunks : goal.store_run-requires-4-clause-chunks
store_run-requires-4-clause-chunks c =
    still-all c.args.base c.args.chunks.now _ c.requires.chunks
    (still-more c.args.base c.args.chunks.now _ _ (still-more c.args.base c.args.chunks.now _ _ c.store_run.ensures.chunks c.store_run-2.ensures.chunks) c.store_run-3.ensures.chunks)

pub store_run-requires-4-clause-run : goal.store_run-requires-4-clause-run
store_run-requires-4-clause-run c =
    let within = runs-within c.requires.runs in
    let split = c.split_before.ensures in
    let more = c.split_before-2.ensures in
    record {
      ordered = within.all;
      within = omega arith;
      news = behind-places c.args.exchange c.args.base.traces.now c.args.news.now within _ _ _ _ c.requires.places split.before split.from more.before more.from;
    }

pub returns-in_err-store_run-4-clause-chunks : goal.returns-in_err-store_run-4-clause-chunks
returns-in_err-store_run-4-clause-chunks c =
    still-more c.args.base c.args.chunks.now _ _
    (still-more c.args.base c.args.chunks.now _ _ (still-more c.args.base c.args.chunks.now _ _ c.store_run.ensures.chunks c.store_run-2.ensures.chunks) c.store_run-3.ensures.chunks)
    c.store_run-4.ensures.chunks

pub returns-clause-chunks : goal.returns-clause-chunks
returns-clause-chunks c =
    still-more c.args.base c.args.chunks.now _ _
    (still-more c.args.base c.args.chunks.now _ _ (still-more c.args.base c.args.chunks.now _ _ c.store_run.ensures.chunks c.store_run-2.ensures.chunks) c.store_run-3.ensures.chunks)
    c.store_run-4.ensures.chunks

pub returns-clause-stored : goal.returns-clause-stored
returns-clause-stored c =
    let olds = c.args.base.traces.now in
    let e = c.args.exchange in
    let within = runs-within c.requires.runs in
    let split = c.split_before.ensures in
    let more = c.split_before-2.ensures in
    let a : List Trace = renewed 0 [] (stretch 0 e.keep olds) in
    let b : List Trace = renewed e.mid c.split_before-2.result.0.now (stretch e.mid e.from olds) in
    let d : List Trace = renewed e.keep c.split_before.result.0.now (stretch e.keep e.mid olds) in
    subst (IsStored c.store_run-4.new.storage)
    (runs-moved e olds c.args.news.now within _ _ _ _ c.requires.places split.before split.from more.before more.from)
    (c.in_ok-store_run-4.ensures.stores ((a ++ b) ++ d) (c.in_ok-store_run-3.ensures.stores (a ++ b) (c.in_ok-store_run-2.ensures.stores a (c.in_ok-store_run.ensures.stores [] c.new-next.ensures))))
