use Rattle.std.proofs.Common.{◌≤◌, List, arith, ap, sym, ◌∙◌, slice_get}
use Rattle.cps_state.specs.declared.key.Key.{Key}
use Rattle.cps_final.specs.Code.Kept.{count_of, keys_in}
use Rattle.cps_final.proofs.ExchangeLemmas.{exchanged-next, exchanged-state, exchanged-back, exchanged-keys}
use Rattle.cps_final.proofs.changes.Changes.exchange.Goals as goal

pub loop-i-preserved : goal.loop-i-preserved
loop-i-preserved c =
    let before = c.loop-i.invariant.room in
    let more = c.exchange_at.ensures.room in
    record {
      keys = c.exchange_at.ensures.keys.keys ∙ c.loop-i.invariant.keys;
      count = c.exchange_at.ensures.keys.count ∙ c.loop-i.invariant.count;
      stands = c.exchange_at.ensures.stands;
      room = omega (arith, before, more);
      done = exchanged-next (keys_in c.args.self.now) c.loop-i.i c.key-key.result c.len-i-end.ensures.unique
          (sym (ap (λ (ks : List Key). slice_get ks c.loop-i.i) c.loop-i.invariant.keys) ∙ c.key-key.ensures.key)
          _ _ _ _ _ _ c.loop-i.invariant.done c.exchange_at.ensures.changes c.exchange_at.ensures.state;
    }

pub returns-clause-state : goal.returns-clause-state
returns-clause-state c =
    let all : count_of c.args.self.now ≤ c.loop-i.i = omega arith in
    exchanged-state c.args.self.now c.loop-i.i all _ _ _ c.loop-i.invariant.done

pub returns-clause-back : goal.returns-clause-back
returns-clause-back c =
    let all : count_of c.args.self.now ≤ c.loop-i.i = omega arith in
    exchanged-back c.args.self.now c.loop-i.i all _ _ _ c.loop-i.invariant.done

pub returns-clause-keys : goal.returns-clause-keys
returns-clause-keys c =
    let all : count_of c.args.self.now ≤ c.loop-i.i = omega arith in
    exchanged-keys c.args.self.now c.loop-i.i all _ _ _ c.loop-i.invariant.done
