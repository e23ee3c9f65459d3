use Rattle.std.proofs.Common.{rules, ◌≡◌, true, None}
use Rattle.cps_state.specs.Code.OtherAnswers.{is_rest}
use Rattle.cps_state.proofs.OtherLemmas.{rest-changed}
use Rattle.cps_state.proofs.other_answers.OtherAnswers.remove.Goals as goal

pub returns-in_default-clause-answer : goal.returns-in_default-clause-answer
returns-in_default-clause-answer c =
    let is : is_rest c.args.key.now ≡ true = search rules in
    rest-changed _ _ _ None _ c.args.key.now is c.remove-in_default.ensures.updates.0
