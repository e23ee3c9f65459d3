-- Which line opened what is open where a source ends. Our own.
use Rattle.std.specs.Prelude.{ℕ, ◌+◌, ◌<◌, ◌≤◌, List, length, take, if◌then◌else◌}
use Rattle.cps_state.specs.Course.{Trace}
use Rattle.cps_state.specs.declared.key.Key.TheVariants as key
use Rattle.cps_state.specs.Keys.{State, first_state, overwritten, is_normal, mode_of, ranges_of}
use Rattle.cps_final.specs.Layout.{puts_of}

-- how much is open in a state: its ranges, and beside them lines that are skipped or kept
abbrev pub open_count : State → ℕ
open_count state = length (ranges_of (state key.Ifs)) + (if is_normal (mode_of (state key.Control)) then 0 else 1)

-- how much is open behind the first so many of these lines
abbrev pub open_behind : List Trace → ℕ → ℕ
open_behind traces count = open_count (overwritten first_state (puts_of (take count traces)))

-- The line behind so many others opened what is open behind all of them: less is open before it, and from there on no less is.
pub record IsOpener (traces : List Trace) (above : ℕ) : Type 0 where
  pub within : above < length traces
  pub less : open_behind traces above < open_behind traces (length traces)
  pub last : (count : ℕ) → above < count → count ≤ length traces → open_behind traces (length traces) ≤ open_behind traces count
