-- No float is in what a server says.
use Rattle.std.proofs.Common.{◌≡◌, refl, false, Option, None, Some}
use Rattle.serde_json.specs.Data.{Data}
use Rattle.cps_server.specs.Code.Telling.{has_float_told}
use Rattle.cps_server.specs.Code.Owing.{has_float_owed}
use Rattle.cps_server.specs.Requests.{owed_by}

-- ---- what is owed

pub owed-no-float : (told : Option Data) → has_float_told told ≡ false → has_float_owed (owed_by told) ≡ false
owed-no-float None none = refl
owed-no-float (Some told) none = none
