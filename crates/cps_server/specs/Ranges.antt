-- Positions and ranges as a server tells them. From the Language Server Protocol 3.17.
use Rattle.std.specs.Prelude.{◌≡◌, ℕ, ◌-◌, ◌^◌, min, List, codes}
use Rattle.serde_json.specs.Data.{Data, unsigned, number, string, object, no_members, member}
use Rattle.cps_rpc.specs.declared.encoding.Encoding.{Encoding}
use Rattle.cps_rpc.specs.declared.position.Position.{Position}
use Rattle.cps_rpc.specs.Positions.{place_in, units_before}
use Rattle.cps_server.specs.Symbols.{line_of}
use Rattle.cps_server.specs.Words.{word_end, word_start}

-- the units before a place in a line, as far as a position can tell them
abbrev pub told_units : Encoding → List ℕ → ℕ → ℕ
told_units encoding line place = min (units_before encoding line place) (2 ^ 32 - 1)

abbrev pub position : ℕ → ℕ → Data
position line character = object (member (codes "character") (number (unsigned character)) (member (codes "line") (number (unsigned line)) no_members))

-- from so many units of a line up to others of a line
abbrev pub range_between : ℕ → ℕ → ℕ → ℕ → Data
range_between line start last end = object (member (codes "end") (position last end) (member (codes "start") (position line start) no_members))

-- in a line
abbrev pub range_of : ℕ → ℕ → ℕ → Data
range_of line start end = range_between line start line end

-- that of columns of a line, from its first through its last
abbrev pub columns_range : Encoding → List ℕ → ℕ → ℕ → ℕ → Data
columns_range encoding text line first last = range_of line (told_units encoding text (first - 1)) (told_units encoding text last)

-- that of the word around a place in a line, which is empty where none stands there
abbrev pub word_in : Encoding → List ℕ → ℕ → ℕ → Data
word_in encoding text line place =
    range_of line (told_units encoding text (word_start text place)) (told_units encoding text (word_end text place))

-- that around so many units of a line
abbrev pub word_of : Encoding → List ℕ → Position → Data
word_of encoding line position = word_in encoding line position.line (place_in encoding line position.character)

-- that around a position of a text
abbrev pub word_at : Encoding → List ℕ → Position → Data
word_at encoding text position = word_of encoding (line_of text position.line) position

-- a range in a line; where it begins and ends there is free
abbrev pub IsInLine : ℕ → Data → Type 0
IsInLine line json = (start end : ℕ) × (json ≡ range_of line start end)

-- a range in the document of a URI
abbrev pub location : List ℕ → Data → Data
location uri range = object (member (codes "range") range (member (codes "uri") (string uri) no_members))
