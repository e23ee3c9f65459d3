use Rattle.std.proofs.Common.{rules, ◌≡◌, ◌∙◌, List, Some, true, ap, subst}
use Rattle.std.specs.Prelude.{option_map, option_and_then, is_some, IfSome}
use Rattle.std.specs.HashMap as hash
use Rattle.cps_state.specs.declared.key.Key.{Key}
use Rattle.cps_state.specs.declared.key.Answer.{Answer}
use Rattle.cps_state.specs.declared.key.Put.{Put}
use Rattle.cps_state.specs.contracts.key.KeyPartialEq.TheImpl.{eq-value}
use Rattle.cps_state.specs.Course.{known_in}
use Rattle.cps_state.specs.Code.Log.{Log, asked_in, asked_at, put_at, found_at, found_in, known_of, Indexes}
use Rattle.cps_state.proofs.LogLemmas.{put-known, key-there, put-there, index-known, index-there}
use Rattle.cps_state.proofs.log.Log.find.Goals as goal

pub returns-in-Some-clause-found : goal.returns-in-Some-clause-found
returns-in-Some-clause-found c = λ state.
    let asks = asked_in state c.self.inside.asks.items in
    let puts = c.self.inside.puts.items in
    let index = c.in-Some.index.value in
    let is : Indexes asks puts c.args.key (hash.get (eq-value.it) index c.args.key) = (rw c.in-Some.is at c.self.invariant) state c.args.key in
    let got : c.copied.result ≡ hash.get (eq-value.it) index c.args.key = search rules in
    subst (λ (l : Log). option_and_then (found_at state l) c.copied.result ≡ known_of state l c.args.key) c.self.view_is
    (ap (option_and_then (found_in asks puts)) got ∙ index-known asks puts c.args.key _ is)

pub returns-in-Some-clause-is_there : goal.returns-in-Some-clause-is_there
returns-in-Some-clause-is_there c = λ state.
    let asks = asked_in state c.self.inside.asks.items in
    let puts = c.self.inside.puts.items in
    let index = c.in-Some.index.value in
    let is : Indexes asks puts c.args.key (hash.get (eq-value.it) index c.args.key) = (rw c.in-Some.is at c.self.invariant) state c.args.key in
    let got : hash.get (eq-value.it) index c.args.key ≡ c.copied.result = search rules in
    subst (λ (l : Log). IfSome c.copied.result (λ known. is_some (found_at state l known) ≡ true)) c.self.view_is
    (subst (λ o. IfSome o (λ known. is_some (found_in asks puts known) ≡ true)) got (index-there asks puts c.args.key _ is))

pub returns-in-Some-newest_put-clause-found : goal.returns-in-Some-newest_put-clause-found
returns-in-Some-newest_put-clause-found c = λ state.
    let asks = asked_in state c.args.self.now.asks in
    let place = c.in-Some-newest_put.place in
    let same : c.deref-2.result.now ≡ c.args.self.now.puts = search rules in
    subst (λ (ps : List Put). option_map (λ (a : Answer). Some a) (put_at ps place) ≡ known_in asks ps c.args.key) same
    (put-known asks c.deref-2.result.now place c.args.key c.in-Some-newest_put.ensures.within c.in-Some-newest_put.ensures.found)

pub returns-in-Some-newest_put-clause-is_there : goal.returns-in-Some-newest_put-clause-is_there
returns-in-Some-newest_put-clause-is_there c = λ state.
    let place = c.in-Some-newest_put.place in
    let same : c.deref-2.result.now ≡ c.args.self.now.puts = search rules in
    subst (λ (ps : List Put). is_some (option_map (λ (a : Answer). Some a) (put_at ps place)) ≡ true) same
    (put-there c.deref-2.result.now place c.in-Some-newest_put.ensures.within)

pub returns-in-Some-newest_ask-clause-is_there : goal.returns-in-Some-newest_ask-clause-is_there
returns-in-Some-newest_ask-clause-is_there c = λ state.
    let place = c.in-Some-newest_ask.place in
    let same : c.deref-in-None.result.now ≡ c.args.self.now.asks = search rules in
    subst (λ (ks : List Key). is_some (asked_at (asked_in state ks) place) ≡ true) same
    (key-there state c.deref-in-None.result.now place c.in-Some-newest_ask.ensures.within)
