-- The lines of a text that an editor may fold. From the Language Server Protocol 3.17. Which lines these are is tested, not proved.
use Rattle.std.specs.Prelude.{◌≡◌, ◌<◌, ◌≤◌, ℕ, Bool, true, false, List, [], ◌∷◌, length, map, codes}
use Rattle.serde_json.specs.Data.{Data, unsigned, number, string, array, object, no_members, member}
use Rattle.serde_json.specs.View.{items_of}
use Rattle.cps_server.specs.Document.{source_of_text}
use Rattle.cps_server.specs.declared.folding.Folding.{Folding}

-- from a line through another, from 0; comments are told as such
abbrev pub lines_json : Bool → ℕ → ℕ → Data
lines_json false first last = object (member (codes "endLine") (number (unsigned last)) (member (codes "startLine") (number (unsigned first)) no_members))
lines_json true first last = object (member (codes "endLine") (number (unsigned last)) (member (codes "kind") (string (codes "comment"))
    (member (codes "startLine") (number (unsigned first)) no_members)))

abbrev pub folding_json : Folding → Data
folding_json folding = lines_json folding.is_comment folding.first folding.last

-- more than a line of so many, from one on
pub record IsFolding (count least : ℕ) (folding : Folding) : Type 0 where
  pub ordered : least ≤ folding.first
  pub forward : folding.first < folding.last
  pub within : folding.last < count

-- some in the order of their first lines
abbrev pub AreFoldings : ℕ → ℕ → List Folding → Type 0
AreFoldings count least [] = Unit {0}
AreFoldings count least (folding ∷ foldings) = IsFolding count least folding × AreFoldings count folding.first foldings

-- what is told are foldings of the lines of a text's source
abbrev pub TellsFoldings : List ℕ → Data → Type 0
TellsFoldings text json =
    (foldings : List Folding) × AreFoldings (length (source_of_text text)) 0 foldings × (json ≡ array (items_of (map folding_json foldings)))
