-- Statements that make nothing but flags. Which rule has which letter is our profile's.
use Rattle.std.specs.Prelude.{true}
use Rattle.cps_state.specs.declared.flags.Flags.{Flags}
use Rattle.cps_state.specs.Course.{Part, fill}
use Rattle.cps_state.specs.Made.{nothing_made, no_flags}
use Rattle.cps_pass.specs.declared.reading.Location.{Location}
use Rattle.cps_pass.specs.Located.{present_flags}

abbrev pub flagged : Flags → Part
flagged flags = fill (nothing_made flags)

-- O alone: there is no operation, or none of that name
abbrev pub unknown : Part
unknown = flagged (record no_flags { operation = true })

-- E alone: a statement that may not stand where it stands, or that passes a limit
abbrev pub misplaced : Part
misplaced = flagged (record no_flags { structure = true })

-- E for one that takes no location field, and that ends or turns something where nothing of the kind is open; or that passes a limit
abbrev pub unmatched : Location → Part
unmatched location = flagged (record (present_flags location) { structure = true })

-- A for one that takes no location field, with operands that can't be read, or whose value it doesn't take
abbrev pub unread : Location → Part
unread location = flagged (record (present_flags location) { operand = true })
