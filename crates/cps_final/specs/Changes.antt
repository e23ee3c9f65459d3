-- Changed keys: where another answer stands now than before, or none where one stood. Our own.
use Rattle.std.specs.Prelude.{◌≡◌, List, Option, None, Some, is_some, unwrap_or, if◌then◌else◌}
use Rattle.cps_state.specs.declared.key.Key.{Key}
use Rattle.cps_state.specs.declared.key.Answer.{Answer}
use Rattle.cps_state.specs.declared.key.Put.{Put}
use Rattle.cps_state.specs.Course.{last_put}
use Rattle.cps_state.specs.Keys.{State, same_key, overwritten}

-- what stands now at each key that is changed; None at all others
abbrev pub Changed : Type 0
Changed = Key → Option (Option Answer)

-- no key is changed
abbrev pub no_change : Changed
no_change k = None

-- a state with changes
abbrev pub changed : Changed → State → State
changed now state k = unwrap_or (now k) (state k)

-- one key more, or a changed one with another answer
abbrev pub with_change : Changed → Key → Option Answer → Changed
with_change now key answer k = if same_key key k then Some answer else now k

-- one key less
abbrev pub without : Changed → Key → Changed
without now key k = if same_key key k then None else now k

-- the changes behind lines that put the same as before: at a key that they put, nothing is changed
abbrev pub agreed : Changed → List Put → Changed
agreed now puts k = if is_some (last_put puts k) then None else now k

-- what changes and puts make of a state: lines that put the same as before leave those changes that they don't put
abbrev pub AgreedLaw : Type 0
AgreedLaw = (now : Changed) (state : State) (puts : List Put) → overwritten (changed now state) puts ≡ changed (agreed now puts) (overwritten state puts)
