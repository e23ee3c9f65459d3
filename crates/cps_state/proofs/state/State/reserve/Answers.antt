use Rattle.std.proofs.Common.{ap}
use Rattle.cps_state.specs.Code.KeptAnswers.{answers_in}
use Rattle.cps_state.proofs.state.State.reserve.Goals as goal

pub returns-clause-answer : goal.returns-clause-answer
returns-clause-answer c = ap (answers_in _ _ _ _ _ _) c.reserve.ensures.answer
