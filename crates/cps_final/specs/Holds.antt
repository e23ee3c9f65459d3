-- Whether what a line asked still stands. Two answers are the same if they hold the same, however they are shared; that nothing stands at a key
-- is an answer as well. Our own.
use Rattle.std.specs.Prelude.{Bool, true, ◌&&◌, List, [], ◌∷◌}
use Rattle.std.specs.Option.{option_eq}
use Rattle.cps_state.specs.declared.key.Answer.{Answer}
use Rattle.cps_state.specs.declared.key.Asked.{Asked}
use Rattle.cps_state.specs.contracts.key.AnswerPartialEq.TheImpl.{eq-value}
use Rattle.cps_state.specs.Keys.{State}

-- what `==` says of two answers
abbrev pub same_answer : Answer → Answer → Bool
same_answer = eq-value.it

-- each key that was asked has the answer in this state that it had then
abbrev pub holds : List Asked → State → Bool
holds [] state = true
holds (asked ∷ asks) state = option_eq same_answer (state asked.key) asked.answer && holds asks state
