use Rattle.std.proofs.Common.{rules, ◌≡◌, [], List, subst}
use Rattle.std.specs.HashMap as hash
use Rattle.cps_state.specs.declared.key.Key.{Key}
use Rattle.cps_state.specs.contracts.key.KeyPartialEq.TheImpl.{eq-value}
use Rattle.cps_state.specs.Code.Log.{asked_in, Indexes}
use Rattle.cps_state.proofs.log.Log.make_index.Goals as goal

pub with_puts-requires : goal.with_puts-requires
with_puts-requires c = λ state k.
    let same : c.deref.result.now ≡ c.deref-2.result.now = search rules in
    subst (λ (ks : List Key). Indexes (asked_in state ks) [] k (hash.get (eq-value.it) c.in_ok-index.index k)) same (c.in_ok-index.ensures state k)

pub invariant_of-self : goal.invariant_of-self
invariant_of-self c = λ state k.
    let asks : c.deref-2.result.now ≡ c.self.inside.asks.items = search rules in
    let puts : c.deref-3.result.now ≡ c.self.inside.puts.items = search rules in
    let made : c.in_ok-index-2.index ≡ c.in_ok-new.field-0.value = search rules in
    rw (asks, puts, made) at (c.in_ok-index-2.ensures state k)
