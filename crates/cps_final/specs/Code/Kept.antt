-- For the code that keeps changed keys, not part of what a reader believes.
use Rattle.std.specs.Prelude.{◌≡◌, ℕ, false, List, None, Some}
use Rattle.indexmap.specs.IndexMap.{keys, get, index_map_len}
use Rattle.cps_state.specs.declared.key.Key.{Key}
use Rattle.cps_state.specs.contracts.key.KeyPartialEq.TheImpl.{eq-value}
use Rattle.cps_state.specs.Code.KeptAnswers.{is_other}
use Rattle.cps_state.specs.Code.Exchange.{with_answer}
use Rattle.cps_state.specs.Keys.{State}
use Rattle.cps_final.specs.declared.changes.Changes.{Changes}
use Rattle.cps_final.specs.Changes.{Changed, changed}

-- what stands now at each key that is changed
abbrev pub changes_in : Changes → Changed
changes_in changes k = get (eq-value.it) changes.answers k

-- how many keys are changed
abbrev pub count_of : Changes → ℕ
count_of changes = index_map_len changes.answers

-- the keys that are changed, in an order of their own
abbrev pub keys_in : Changes → List Key
keys_in changes = keys changes.answers

-- the same keys are changed, in the same order
pub record HasSameKeys (old new : Changes) : Type 0 where
  pub keys : keys_in new ≡ keys_in old
  pub count : count_of new ≡ count_of old

-- a state that takes over what stands at one key now
abbrev pub taken_over : Changed → Key → State → State
taken_over now key state = with_answer state key (changed now state key)

-- where always something stands, something stands now
abbrev pub MayStandIn : Changed → Type 0
MayStandIn now = (k : Key) → is_other k ≡ false → now k ≡ Some None → ⊥
