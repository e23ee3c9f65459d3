-- The columns of a statement. How long one may be in an expansion is our profile's.
use Rattle.std.specs.Prelude.{ℕ, nat_lt, length, List, if◌then◌else◌}
use Rattle.cps_text.specs.declared.limits.TheConstants.{MOST_CHARACTERS}
use Rattle.cps_text.specs.Card.{LineFields, ContinuedLine, fields_of}

-- a statement above 90 characters, which an expansion may have, is treated as a line that continues another
abbrev pub card_in : List ℕ → LineFields
card_in text = if nat_lt MOST_CHARACTERS (length text) then ContinuedLine else fields_of text
