-- Leaving the word of a block, and using another block: what ORG, USE and END share. From the manual's descriptions of these statements; that they force is
-- our profile's.
use Rattle.std.specs.Prelude.{Option, if◌then◌else◌}
use Rattle.cps_text.specs.declared.name.Name.{Name}
use Rattle.cps_code.specs.declared.place.Place.{Place}
use Rattle.cps_code.specs.Place.{position}
use Rattle.cps_state.specs.declared.key.Control.{Control}
use Rattle.cps_state.specs.Course.{Part, nothing}
use Rattle.cps_state.specs.Keys.{same_block}
use Rattle.cps_state.specs.Made.{Made, nothing_made}
use Rattle.cps_pass.specs.declared.reading.Location.{Location}
use Rattle.cps_pass.specs.Head.{putting_control}
use Rattle.cps_pass.specs.Located.{present_flags}
use Rattle.cps_pass.specs.Places.{filling_between, place_left}

-- the word of a block is left; what fills it belongs to the statement
abbrev pub left : Control → Location → Place → Made
left control location place = record (nothing_made (present_flags location)) { machine = control.machine; filling = filling_between (position place) (place_left place) }

-- another block is in use
abbrev pub using : Control → Option Name → Part
using control block = if same_block control.block block then nothing else putting_control (record control { block = block })
