-- For the code, not part of what a reader believes: open texts, and where one stands.
use Rattle.std.specs.Prelude.{◌≡◌, ℕ, true, List, map, slice_get, Some}
use Rattle.std.specs.String.{string_bytes}
use Rattle.cps_server.specs.ServerState.{OpenText, is_under, open_under}
use Rattle.cps_server.specs.declared.open_texts.OpenText as code

abbrev pub value_of : code.OpenText → OpenText
value_of one = record { uri = string_bytes one.uri; version = one.version; text = one.document }

-- what is open under a URI stands here
pub record IsFirst (uri : List ℕ) (list : List code.OpenText) (at : ℕ) : Type 0 where
  pub one : code.OpenText
  pub there : slice_get list at ≡ Some one
  pub under : is_under uri (value_of one) ≡ true
  pub found : open_under uri (map value_of list) ≡ Some (value_of one)
