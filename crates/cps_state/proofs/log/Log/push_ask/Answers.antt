use Rattle.std.proofs.Common.{rules, ◌≡◌, ◌++◌, ◌∷◌, [], List, length, Some, None, cond, ap, subst, ◌∙◌, sym}
use Rattle.std.specs.HashMap as hash
use Rattle.cps_state.specs.declared.key.Key.{Key}
use Rattle.cps_state.specs.contracts.key.KeyPartialEq.TheImpl.{eq-value}
use Rattle.cps_state.specs.declared.log.LogPlace.TheVariants.{Asked}
use Rattle.cps_state.specs.Code.Log.{Log, asked_in, known_of, asked_at, Indexes}
use Rattle.cps_state.proofs.LogLemmas.{indexes-key, key-last}
use Rattle.cps_state.proofs.log.Log.push_ask.Goals as goal

pub invariant_of-self-in-Some : goal.invariant_of-self-in-Some
invariant_of-self-in-Some c = λ state k.
    let asks = c.self.inside.asks.items in
    let puts = c.self.inside.puts.items in
    let e : Key = c.args.key in
    let index = c.in-Some.index.value in
    let pushed : c.push_reserved.new.self.items ≡ asks ++ e ∷ [] = search rules in
    let none : known_of state (record { asks = asks; puts = puts }) e ≡ None = subst (λ (l : Log). known_of state l e ≡ None) (sym c.self.view_is) (c.requires state) in
    let count : c.len.result ≡ length asks = search rules in
    let was : (q : Key) → Indexes (asked_in state asks) puts q (hash.get (eq-value.it) index q) = λ q. (rw c.in-Some.is at c.self.invariant) state q in
    let more : hash.get (eq-value.it) c.insert.new.self k ≡ cond ((eq-value.it) e k) (Some (Asked (length asks))) (hash.get (eq-value.it) index k)
    = cc (c.in_ok-insert.ensures.updates.0 k, count, c.deref_mut.ensures.value) in
    rw pushed (indexes-key state asks puts e k _ (hash.get (eq-value.it) index k) none more (was k))

pub returns-in-Some-clause-answer : goal.returns-in-Some-clause-answer
returns-in-Some-clause-answer c = λ state.
    let asks = c.self.inside.asks.items in
    let pushed : c.push_reserved.new.self.items ≡ asks ++ c.args.key ∷ [] = search rules in
    ap (λ (ks : List Key). asked_at (asked_in state ks) c.len.result) pushed ∙ key-last state asks c.args.key c.len.result (search rules)

pub returns-clause-answer : goal.returns-clause-answer
returns-clause-answer c = λ state.
    let asks = c.self.inside.asks.items in
    let is : c.lengthen.new.self.asks ≡ asks ++ c.args.key ∷ [] = search rules in
    ap (λ (ks : List Key). asked_at (asked_in state ks) c.len.result) is ∙ key-last state asks c.args.key c.len.result (search rules)

pub invariant_of-self : goal.invariant_of-self
invariant_of-self c = λ state k.
    subst (λ (ks : List Key). Indexes (asked_in state ks) c.self.inside.puts.items k (hash.get (eq-value.it) c.in-Some.index.value k)) (sym c.reserve.ensures.items)
    ((rw c.in-Some.is at c.self.invariant) state k)

pub invariant_of-self-in_err-insert : goal.invariant_of-self-in_err-insert
invariant_of-self-in_err-insert c = λ state k.
    let kept : hash.get (eq-value.it) c.in-Some.index.value k ≡ hash.get (eq-value.it) c.insert.new.self k = search rules in
    rw (sym c.reserve.ensures.items, kept) at ((rw c.in-Some.is at c.self.invariant) state k)
