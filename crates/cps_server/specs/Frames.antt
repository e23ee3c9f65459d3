-- What is written of what a server says.
use Rattle.std.specs.Prelude.{ℕ, List}
use Rattle.std.specs.List.{flat_map}
use Rattle.serde_json.specs.Data.{Data}
use Rattle.serde_json.specs.Written.{compact_text}
use Rattle.cps_rpc.specs.Frame.{frame_of}

-- a value in its frame, with no blank in it
abbrev pub frame_of_json : Data → List ℕ
frame_of_json json = frame_of (compact_text json)

-- values one after another
abbrev pub text_of : List Data → List ℕ
text_of said = flat_map frame_of_json said
