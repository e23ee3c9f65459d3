use Rattle.std.proofs.Common.{arith, sym, ◌∙◌, length}
use Rattle.cps_chunk.proofs.SparseLemmas.{AreWithin-wider}
use Rattle.cps_live.proofs.ExchangeLemmas.{runs-within}
use Rattle.cps_live.proofs.MovedStorageLemmas.{stored-first, stored-second}
use Rattle.cps_live.proofs.StoreLemmas.{still-none}
use Rattle.cps_live.proofs.storage.storage_moved.Goals.{then-leave_same, else-leave_same}
use Rattle.cps_live.proofs.storage.storage_moved.Goals as goal

pub leave_same_each-requires : goal.leave_same_each-requires
leave_same_each-requires c =
    let n = length c.args.base.traces.now in
    AreWithin-wider c.args.exchange.keep n 0 n c.args.news.now (omega arith) (omega arith) c.requires.places

pub returns-then-leave_same-2-clause-stored : goal.returns-then-leave_same-2-clause-stored
returns-then-leave_same-2-clause-stored c =
    let olds = c.args.base.traces.now in
    let within = runs-within c.requires.runs in
    let each = c.leave_same_each.ensures c.if-leave_same_each.true in
    elim c.if-leave_same.branch [
      | then-leave_same w ↦ stored-first c.args.exchange olds c.args.news.now within each (c.leave_same.ensures w.if-leave_same.true)
      | else-leave_same w ↦ stored-second c.args.exchange olds c.args.news.now within each (w.leave_same-else-leave_same.ensures (sym w.value-is ∙ c.if-leave_same-2.true))
    ]

pub returns-then-leave_same-2-clause-chunks : goal.returns-then-leave_same-2-clause-chunks
returns-then-leave_same-2-clause-chunks c = still-none c.args.base c.args.chunks.now c.requires.chunks
