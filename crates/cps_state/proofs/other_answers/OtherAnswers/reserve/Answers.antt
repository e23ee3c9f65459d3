use Rattle.std.proofs.Common.{refl}
use Rattle.std.specs.HashMap.{get}
use Rattle.cps_state.specs.contracts.key.KeyPartialEq.TheImpl.{eq-value}
use Rattle.cps_state.proofs.OtherLemmas.{all-kept, same-kept}
use Rattle.cps_state.proofs.other_answers.OtherAnswers.reserve.Goals as goal

pub returns-in_err-reserve-2-clause-answer : goal.returns-in_err-reserve-2-clause-answer
returns-in_err-reserve-2-clause-answer c =
    all-kept _ _ _ _ (get (eq-value.it) c.args.self.now.rest) (get (eq-value.it) c.args.self.now.rest)
    (same-kept c.args.self.now.counters.places c.reserve.new.self c.reserve.ensures.entries) c.reserve-2.ensures.entries.2 (λ k. refl)

pub returns-clause-answer : goal.returns-clause-answer
returns-clause-answer c =
    all-kept _ _ _ _ _ _ (same-kept c.args.self.now.counters.places c.reserve.new.self c.reserve.ensures.entries)
    c.reserve-2.ensures.entries.2 c.reserve-3.ensures.entries.2
