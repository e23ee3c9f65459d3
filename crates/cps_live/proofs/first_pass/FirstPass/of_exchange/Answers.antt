use Rattle.std.proofs.Common.{◌≡◌, List, subst, sym, ap, ◌∙◌}
use Rattle.cps_final.specs.Changes.{changed}
use Rattle.cps_final.specs.Code.Kept.{changes_in}
use Rattle.cps_edit.specs.Exchange.{exchanged}
use Rattle.cps_state.specs.Keys.{first_state}
use Rattle.cps_edit.specs.Passes.{state_after}
use Rattle.cps_chunk.specs.Code.Chunk.{AreChunksOf}
use Rattle.cps_chunk.specs.declared.chunk.Chunk.{Chunk}
use Rattle.cps_chunk.specs.declared.replay.Replay.{Replay}
use Rattle.cps_chunk.specs.declared.walk.Baseline.{Baseline}
use Rattle.cps_chunk.specs.Code.Moved.{replayed_moved}
use Rattle.cps_chunk.specs.Code.Walk.{IsBaseline}
use Rattle.cps_live.specs.Code.MovedPass.{order_of}
use Rattle.cps_live.proofs.ExchangeLemmas.{turned-list}
use Rattle.cps_live.proofs.MovedPassLemmas.{moved-state, news-turned, order-within}
use Rattle.cps_live.proofs.first_pass.FirstPass.of_exchange.Goals as goal

pub go_over_moved-order-requires-clause-walk : goal.go_over_moved-order-requires-clause-walk
go_over_moved-order-requires-clause-walk c =
    let base = c.new-walk.ensures.base in
    let chunks = ap (λ cs. cs.items) (c.new-walk.ensures.chunks ∙ c.replace-olds.ensures.value) in
    record {
      base = subst IsBaseline (sym base) c.requires.base;
      chunks = subst (λ (b : Baseline). AreChunksOf b.hashing c.new-walk.result.chunks.items b.traces.now) (sym base)
          (subst (λ (cs : List Chunk). AreChunksOf c.args.base.hashing cs c.args.base.traces.now) (sym chunks) c.requires.chunks);
    }

pub returns-clause-pass : goal.returns-clause-pass
returns-clause-pass c =
    let walk = c.new-walk.result in
    let next = c.go_over_moved-order.new.walk in
    let e = c.args.exchange in
    let moved = c.in_ok-order.ensures.moved in
    let base = c.new-walk.ensures.base in
    let replay = c.into_parts-olds.ensures.replay in
    let news : c.deref_mut.result.now ≡ next.replay.news.items = c.deref_mut.ensures.value ∙ (λ i. (c.of_parts-pass.ensures.renewed i).items) ∙ ap (λ (r : Replay). r.news.items) replay in
    let within = order-within walk.base.lines.now e c.in_ok-order.order c.of_parts-pass.result.traces.renewed.items c.in_ok-order.ensures.order (sym c.deref_mut.ensures.value ∙ news ∙ moved.news) in
    record {
      entered = ap (λ v. v.items) c.of_parts-pass.ensures.entered ∙ c.new-2.ensures.items;
      renewed = turned-list c.of_parts-pass.result.traces.renewed c.deref_mut.result.now c.turn.new.items c.in_ok-order.order c.turn.ensures c.deref_mut.ensures.value within
          ∙ c.turn.ensures ∙ (λ i. exchanged (c.in_ok-order.ensures.order i) (news i))
          ∙ ap (exchanged (order_of walk.base.lines.now e)) moved.news ∙ news-turned walk.base.lines.now e
          ∙ ap (λ (b : Baseline). replayed_moved b.lines.now e) base;
      state = (λ i. changed (changes_in ((c.of_parts-pass.ensures.changes ∙ ap (λ (r : Replay). r.log.changes) replay) i)) (state_after first_state (sym base i).lines.now))
          ∙ moved-state walk next e c.go_over_moved-order.ensures.walk moved
          ∙ ap (λ (b : Baseline). state_after first_state (exchanged e b.lines.now)) base;
    }
