-- ORG: goes on at an address, in the block of its value. From the manual's description of this statement; that it forces is our profile's.
use Rattle.std.specs.Prelude.{ℕ, ◌*◌, true, false, nat_lt, pos, Option, None, Some, if◌then◌else◌}
use Rattle.cps_text.specs.declared.name.Name.{Name}
use Rattle.cps_expr.specs.Expression.{Expression}
use Rattle.cps_code.specs.declared.place.Place.{Place}
use Rattle.cps_state.specs.declared.key.Control.{Control}
use Rattle.cps_state.specs.declared.made.Shown.TheVariants as shown
use Rattle.cps_state.specs.Course.{Part, ◌before◌, fill}
use Rattle.cps_state.specs.Machines.{limit}
use Rattle.cps_pass.specs.declared.reading.Location.{Location}
use Rattle.cps_pass.specs.declared.value_now.ValueNow.{ValueNow}
use Rattle.cps_pass.specs.declared.value_now.ValueNow.TheVariants.{Undefined, NoValue, Known}
use Rattle.cps_pass.specs.Leaving.{left, using}
use Rattle.cps_pass.specs.Located.{present_flags}
use Rattle.cps_pass.specs.Making.{flagged, unmatched, unread}
use Rattle.cps_pass.specs.Numbers.{not_negative}
use Rattle.cps_pass.specs.Places.{place_left, here_at, going_on, asking_place}
use Rattle.cps_pass.specs.ValueNow.{now}

-- E where the machine ends before that address
abbrev pub moving_to : Control → Location → Place → Option Name → ℕ → Part
moving_to control location place block address =
    if nat_lt (limit control.machine) address then unmatched location
    else going_on control.block (place_left place) false before going_on block (60 * address) false before using control block
    before fill (record (left control location place) { shown = shown.Address (record { block = block; offset = pos address }) })

-- None: the value is below 0
abbrev pub moving_by : Control → Location → Place → Option Name → Option ℕ → Part
moving_by control location place block None = unread location
moving_by control location place block (Some address) = moving_to control location place block address

abbrev pub moving : Control → Location → Place → ValueNow → Part
moving control location place Undefined = flagged (record (present_flags location) { undefined = true })
moving control location place NoValue = unread location
moving control location place (Known value) = moving_by control location place value.block (not_negative value.offset)

-- `*` is the address after the word that is left
abbrev pub org_from : Control → Location → Place → Expression → Part
org_from control location place terms = now terms (here_at control.block (place_left place)) (λ value. moving control location place value)

abbrev pub org : Control → Location → Expression → Part
org control location terms = asking_place control (λ place. org_from control location place terms)

-- ORG with an unreadable operand
abbrev pub unread_org : Control → Location → Part
unread_org control location = asking_place control (λ place. unread location)
