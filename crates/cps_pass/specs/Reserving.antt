-- BSS and BSSZ: reserving words, and words of zeros. From the manual's descriptions of these statements; the limit, and that a number below 0 or in a
-- block is none, are our profile's.
use Rattle.std.specs.Prelude.{ℕ, ◌+◌, ◌*◌, ◌/◌, Bool, true, false, nat_lt, [], Option, None, Some, if◌then◌else◌}
use Rattle.cps_expr.specs.Expression.{Expression}
use Rattle.cps_code.specs.Place.{position}
use Rattle.cps_state.specs.declared.key.Control.{Control}
use Rattle.cps_state.specs.declared.made.Shown.TheVariants as shown
use Rattle.cps_state.specs.Course.{Part, ◌before◌, fill}
use Rattle.cps_state.specs.Machines.{limit}
use Rattle.cps_state.specs.Made.{nothing_made}
use Rattle.cps_pass.specs.declared.placing.Site.{Site}
use Rattle.cps_pass.specs.declared.reading.Location.{Location}
use Rattle.cps_pass.specs.declared.value_now.ValueNow.{ValueNow}
use Rattle.cps_pass.specs.Numbers.{plain_number, no_number_flags}
use Rattle.cps_pass.specs.Places.{filling_between, here_at}
use Rattle.cps_pass.specs.Placing.{asking_site, word_start, placing_flags, advancing, unplaced, too_far}
use Rattle.cps_pass.specs.ValueNow.{now}

abbrev pub zeros_for : Bool → ℕ → ℕ
zeros_for has_zeros words = if has_zeros then words else 0

-- so many words from the beginning of a word on
abbrev pub reserved : Bool → Site → ℕ → ℕ → Part
reserved has_zeros site start words =
    if nat_lt (limit site.machine) (start / 60 + words) then too_far site start [] []
    else advancing site start (start + 60 * words) false
    before fill (record (nothing_made (placing_flags site)) {
      machine = site.machine;
      filling = filling_between (position site.place) start;
      start = start;
      zeros = zeros_for has_zeros words;
      shown = shown.Start;
    })

-- None: there is no such number
abbrev pub reserved_or_not : Bool → Site → ℕ → ValueNow → Option ℕ → Part
reserved_or_not has_zeros site start value None = unplaced (no_number_flags site value) site start []
reserved_or_not has_zeros site start value (Some words) = reserved has_zeros site start words

-- it begins a word; `*` is the address of that word
abbrev pub reserving : Bool → Expression → Site → Part
reserving has_zeros terms site =
    now terms (here_at site.block (word_start site)) (λ value. reserved_or_not has_zeros site (word_start site) value (plain_number value))

abbrev pub reserve : Bool → Control → Location → Expression → Part
reserve has_zeros control location terms = asking_site control location (reserving has_zeros terms)

abbrev pub bss : Control → Location → Expression → Part
bss = reserve false

abbrev pub bssz : Control → Location → Expression → Part
bssz = reserve true
