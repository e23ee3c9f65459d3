use Rattle.std.proofs.Common.{rules, ◌≡◌, ◌++◌, ◌∷◌, [], List, length, Some, cond, subst, sym}
use Rattle.std.specs.HashMap as hash
use Rattle.cps_state.specs.declared.key.Key.{Key}
use Rattle.cps_state.specs.declared.key.Put.{Put as APut}
use Rattle.cps_state.specs.contracts.key.KeyPartialEq.TheImpl.{eq-value}
use Rattle.cps_state.specs.declared.log.LogPlace.TheVariants.{Put}
use Rattle.cps_state.specs.Code.Log.{asked_in, Indexes}
use Rattle.cps_state.proofs.LogLemmas.{indexes-put}
use Rattle.cps_state.proofs.log.Log.push_put.Goals as goal

pub invariant_of-self-in-Some : goal.invariant_of-self-in-Some
invariant_of-self-in-Some c = λ state k.
    let asks = c.self.inside.asks.items in
    let puts = c.self.inside.puts.items in
    let p : APut = c.args.put in
    let index = c.in-Some.index.value in
    let pushed : c.push_reserved.new.self.items ≡ puts ++ p ∷ [] = search rules in
    let count : c.len.result ≡ length puts = search rules in
    let was : (q : Key) → Indexes (asked_in state asks) puts q (hash.get (eq-value.it) index q) = λ q. (rw c.in-Some.is at c.self.invariant) state q in
    let more : hash.get (eq-value.it) c.insert.new.self k ≡ cond ((eq-value.it) p.key k) (Some (Put (length puts))) (hash.get (eq-value.it) index k)
    = cc (c.in-Ok-insert.ensures.updates.0 k, count, c.deref_mut.ensures.value) in
    rw pushed (indexes-put (asked_in state asks) puts p k _ (hash.get (eq-value.it) index k) more (was k))

pub invariant_of-self : goal.invariant_of-self
invariant_of-self c = λ state k.
    subst (λ (ps : List APut). Indexes (asked_in state c.self.inside.asks.items) ps k (hash.get (eq-value.it) c.in-Some.index.value k)) (sym c.reserve.ensures.items)
    ((rw c.in-Some.is at c.self.invariant) state k)

pub invariant_of-self-in_default-insert : goal.invariant_of-self-in_default-insert
invariant_of-self-in_default-insert c = λ state k.
    let kept : hash.get (eq-value.it) c.in-Some.index.value k ≡ hash.get (eq-value.it) c.insert.new.self k = search rules in
    rw (sym c.reserve.ensures.items, kept) at ((rw c.in-Some.is at c.self.invariant) state k)
