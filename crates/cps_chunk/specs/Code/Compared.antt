-- For the code that notes changes, not part of what a reader believes: what stands at keys that lines put now, or that lines in their place put before.
use Rattle.std.specs.Prelude.{List, Option, None, Some, is_some, unwrap_or, option_map, if◌then◌else◌}
use Rattle.std.specs.Option.{option_or}
use Rattle.cps_state.specs.declared.key.Key.{Key}
use Rattle.cps_state.specs.declared.key.Answer.{Answer}
use Rattle.cps_state.specs.declared.key.Put.{Put}
use Rattle.cps_state.specs.Course.{last_put}
use Rattle.cps_state.specs.Keys.{State, same_key}
use Rattle.cps_final.specs.Changes.{Changed, with_change}
use Rattle.cps_chunk.specs.Noted.{difference}

-- these put more
abbrev pub with_puts : Changed → List Put → Changed
with_puts now puts k = option_or (option_map Some (last_put puts k)) (now k)

-- one key more, unless it is there
abbrev pub with_kept : Changed → Key → Option Answer → Changed
with_kept now key answer = if is_some (now key) then now else with_change now key answer

-- the keys that these put more, unless they are there, each with what stands there
abbrev pub with_all_kept : Changed → List Put → State → Changed
with_all_kept now puts state k = if is_some (now k) then now k else if is_some (last_put puts k) then Some (state k) else None

-- one key is compared
abbrev pub with_difference : Changed → Key → Option Answer → Option Answer → Changed
with_difference changes key now was k = if same_key key k then difference now was else changes k

-- each key of some is compared: what stands there now, and what stood there
abbrev pub compared : Changed → Changed → State → Changed
compared changes present was k = if is_some (present k) then difference (unwrap_or (present k) None) (was k) else changes k
