-- For the code, not part of what a reader believes: what is owed to a request.
use Rattle.std.specs.Prelude.{Bool, false}
use Rattle.std.specs.String.{string_bytes}
use Rattle.serde_json.specs.View.{view}
use Rattle.serde_json.specs.Written.{has_float}
use Rattle.cps_server.specs.Requests as requests
use Rattle.cps_server.specs.declared.owed.Owed as code
use Rattle.cps_server.specs.declared.owed.Owed.TheVariants.{Refused, Found, Failed}

abbrev pub value_of : code.Owed → requests.Owed
value_of (Refused code) = requests.refused code
value_of (Found found) = requests.found (view found)
value_of (Failed words) = requests.failed (string_bytes words)

-- whether what is owed has a float
abbrev pub has_float_owed : requests.Owed → Bool
has_float_owed (requests.refused code) = false
has_float_owed (requests.found found) = has_float found
has_float_owed (requests.failed words) = false
