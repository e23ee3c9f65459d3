-- For the code of pass one, not part of what a reader believes: what a line asked and put, and where in it what is known of a key stands.
use Rattle.std.specs.Prelude.{◌≡◌, ℕ, ◌<◌, List, Option, None, Some, length, map, option_map, slice_get}
use Rattle.cps_state.specs.declared.key.Key.{Key}
use Rattle.cps_state.specs.declared.key.Answer.{Answer}
use Rattle.cps_state.specs.declared.key.Asked.{Asked as Ask}
use Rattle.cps_state.specs.declared.key.Put.{Put as APut}
use Rattle.cps_state.specs.declared.log.LogPlace.{LogPlace}
use Rattle.cps_state.specs.declared.log.LogPlace.TheVariants.{Asked, Put}
use Rattle.cps_state.specs.Keys.{State}
use Rattle.cps_state.specs.Course.{known_in}

-- of what was asked the keys alone
pub record Log : Type 0 where
  pub asks : List Key
  pub puts : List APut

-- keys with what stands there in a state
abbrev pub asked_in : State → List Key → List Ask
asked_in state keys = map (λ k. record { key = k; answer = state k }) keys

-- what is known of a key, where the keys were asked in a state
abbrev pub known_of : State → Log → Key → Option (Option Answer)
known_of state log k = known_in (asked_in state log.asks) log.puts k

abbrev pub put_at : List APut → ℕ → Option Answer
put_at puts place = option_map (λ (p : APut). p.answer) (slice_get puts place)

abbrev pub asked_at : List Ask → ℕ → Option (Option Answer)
asked_at asks place = option_map (λ (a : Ask). a.answer) (slice_get asks place)

-- what stands at a place
abbrev pub found_in : List Ask → List APut → LogPlace → Option (Option Answer)
found_in asks puts (Asked place) = asked_at asks place
found_in asks puts (Put place) = option_map Some (put_at puts place)

abbrev pub found_at : State → Log → LogPlace → Option (Option Answer)
found_at state log known = found_in (asked_in state log.asks) log.puts known

-- a place that there is
abbrev pub StandsIn : List Ask → List APut → LogPlace → Type 0
StandsIn asks puts (Asked place) = place < length asks
StandsIn asks puts (Put place) = place < length puts

-- what an index has at a key is what is known of it
abbrev pub Indexes : List Ask → List APut → Key → Option LogPlace → Type 0
Indexes asks puts k None = known_in asks puts k ≡ None
Indexes asks puts k (Some known) = StandsIn asks puts known × (found_in asks puts known ≡ known_in asks puts k)

-- an index, by what it has at each key
abbrev pub IsIndex : List Key → List APut → (Key → Option LogPlace) → Type 0
IsIndex asks puts found = (state : State) (k : Key) → Indexes (asked_in state asks) puts k (found k)
