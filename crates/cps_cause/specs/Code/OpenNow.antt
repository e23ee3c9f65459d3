-- For the code, not part of what a reader believes: how much is open, as the code counts it.
use Rattle.std.specs.Prelude.{◌≡◌, ℕ, ◌+◌, ◌<◌, ◌≤◌, not, List, length, Option, None, Some, if◌then◌else◌}
use Rattle.cps_state.specs.Course.{Trace}
use Rattle.cps_state.specs.declared.key.Key.TheVariants as key
use Rattle.cps_state.specs.Keys.{State, is_normal, mode_of, ranges_of}
use Rattle.cps_cause.specs.declared.open_now.OpenNow.{OpenNow}
use Rattle.cps_cause.specs.Opener.{open_behind}

-- this much is open in a state
pub record IsOpenNow (state : State) (opened : OpenNow) : Type 0 where
  pub ranges : opened.ranges ≡ length (ranges_of (state key.Ifs))
  pub held : opened.is_held ≡ not (is_normal (mode_of (state key.Control)))

abbrev pub count_of : OpenNow → ℕ
count_of opened = opened.ranges + (if opened.is_held then 1 else 0)

-- of the lines behind fewer than so many, the last before which less than so much is open; none, if there is no such line
abbrev pub IsLast : List Trace → ℕ → ℕ → Option ℕ → Type 0
IsLast traces much at None = (count : ℕ) → count < at → much ≤ open_behind traces count
IsLast traces much at (Some above) =
    (above < at) × (open_behind traces above < much) × ((count : ℕ) → above < count → count < at → much ≤ open_behind traces count)
