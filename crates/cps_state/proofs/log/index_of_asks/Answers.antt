use Rattle.std.proofs.Common.{[], List, subst, take_all}
use Rattle.std.specs.HashMap as hash
use Rattle.cps_state.specs.declared.key.Key.{Key}
use Rattle.cps_state.specs.contracts.key.KeyPartialEq.TheImpl.{eq-value}
use Rattle.cps_state.specs.Code.Log.{asked_in, Indexes}
use Rattle.cps_state.proofs.LogLemmas.{indexes-next-key}
use Rattle.cps_state.proofs.log.index_of_asks.Goals as goal

pub loop-place-preserved : goal.loop-place-preserved
loop-place-preserved c = λ state k.
    let old = hash.get (eq-value.it) c.loop-place.index k in
    indexes-next-key state c.args.asks.now c.loop-place.place _ k _ old c.loop-place-test.true
    (c.in_ok-insert.ensures.updates.0 k) (c.loop-place.invariant state k)

pub returns : goal.returns
returns c = λ state k.
    subst (λ (ks : List Key). Indexes (asked_in state ks) [] k (hash.get (eq-value.it) c.loop-place.index k)) (take_all c.loop-place.place c.args.asks.now c.loop-place-test.false)
    (c.loop-place.invariant state k)
