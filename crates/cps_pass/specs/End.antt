-- END on a source line. From the manual's description of this statement; that it forces, and that it ends ranges, are our profile's.
use Rattle.std.specs.Prelude.{false, Bool, not, ◌||◌, []}
use Rattle.cps_code.specs.declared.place.Place.{Place}
use Rattle.cps_state.specs.declared.flags.Flags.{Flags}
use Rattle.cps_state.specs.declared.key.Key.TheVariants as key
use Rattle.cps_state.specs.declared.key.Answer.TheVariants as answer
use Rattle.cps_state.specs.declared.key.Control.{Control}
use Rattle.cps_state.specs.declared.key.Mode.{Mode}
use Rattle.cps_state.specs.declared.key.Phase.TheVariants.{AfterEnd}
use Rattle.cps_state.specs.Course.{Part, ◌before◌, asking, putting, fill}
use Rattle.cps_state.specs.Keys.{ranges_of, is_normal, is_no_range}
use Rattle.cps_pass.specs.declared.reading.Location.{Location}
use Rattle.cps_pass.specs.Head.{putting_control}
use Rattle.cps_pass.specs.Leaving.{left}
use Rattle.cps_pass.specs.Located.{present_flags}
use Rattle.cps_pass.specs.Places.{place_left, going_on, asking_place}

-- E where lines are skipped or kept, or not all ranges are closed
abbrev pub end_flags : Mode → Location → Bool → Flags
end_flags mode location is_closed = record (present_flags location) { structure = not (is_normal mode) || not is_closed }

-- the program has ended
abbrev pub with_end : Control → Control
with_end control = record control { phase = AfterEnd }

-- no range is open any more, and lines are no longer skipped or kept
abbrev pub ending : Control → Mode → Location → Bool → Place → Part
ending control mode location is_closed place =
    going_on control.block (place_left place) false before putting key.Ifs (answer.Ifs []) before putting_control (with_end control)
    before fill (record (left control location place) { flags = end_flags mode location is_closed })

abbrev pub end : Control → Mode → Location → Part
end control mode location =
    asking key.Ifs (λ a. asking_place control (λ place. ending control mode location (is_no_range (ranges_of a)) place))
