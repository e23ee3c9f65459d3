use Rattle.std.proofs.Common.{rules, ◌≡◌, true, Some}
use Rattle.cps_state.specs.Code.KeptAnswers.{is_other}
use Rattle.cps_state.proofs.ExchangeLemmas.{other-changed}
use Rattle.cps_state.proofs.state.State.exchange.Goals as goal

pub returns-in_default-clause-answer : goal.returns-in_default-clause-answer
returns-in_default-clause-answer c =
    let other : is_other c.args.key ≡ true = search rules in
    other-changed _ _ _ _ _ _ _ _ c.args.key (Some c.args.answer) other c.exchange.ensures.answer
