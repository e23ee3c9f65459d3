use Rattle.std.proofs.Common.{rules, ◌≡◌, true, Some}
use Rattle.cps_state.specs.Code.OtherAnswers.{is_rest}
use Rattle.cps_state.proofs.OtherLemmas.{rest-changed}
use Rattle.cps_state.proofs.other_answers.OtherAnswers.exchange.Goals as goal

pub returns-in_default-clause-answer : goal.returns-in_default-clause-answer
returns-in_default-clause-answer c =
    let is : is_rest c.args.key ≡ true = search rules in
    rest-changed _ _ _ (Some c.args.answer) _ c.args.key is c.exchange_rest.ensures.answer
