-- For the code that changes what stands at a key, not part of what a reader believes.
use Rattle.std.specs.Prelude.{◌≡◌, ℕ, true, Option, None, Some, if◌then◌else◌}
use Rattle.cps_state.specs.declared.key.Key.{Key}
use Rattle.cps_state.specs.declared.key.Answer.{Answer}
use Rattle.cps_state.specs.declared.state.State.{State as KeptState}
use Rattle.cps_state.specs.Keys.{State, same_key}
use Rattle.cps_state.specs.Code.KeptAnswers.{is_other}
use Rattle.cps_state.specs.Code.OtherAnswers.{spare_of}

-- a state in which this stands at a key
abbrev pub with_answer : State → Key → Option Answer → State
with_answer state key answer k = if same_key key k then answer else state k

-- this may stand at a key: nothing only where not always something stands
abbrev pub MayStand : Key → Option Answer → Type 0
MayStand key None = is_other key ≡ true
MayStand key (Some answer) = Unit {0}

-- how many keys more there is room for
abbrev pub room_of : KeptState → ℕ
room_of state = spare_of state.others
