-- The source that the text of a document stands for. Our own.
use Rattle.std.specs.Prelude.{◌≡◌, ℕ, List}
use Rattle.cps_input.specs.Lines.{HasText}
use Rattle.cps_input.specs.Sources.{IsSource}
use Rattle.cps_input.specs.Card.{cards_of}
use Rattle.cps_rpc.specs.Lines.{source_lines}

-- the source that any text stands for: the cards of the lines that batch assembly reads of it, of the first 99,999
abbrev pub source_of_text : List ℕ → List (List ℕ)
source_of_text text = cards_of (source_lines text)

-- a text that batch assembly takes stands for the lines that batch assembly reads
abbrev pub AgreesWithBatch : Type 0
AgreesWithBatch = (text : List ℕ) (source : List (List ℕ)) → HasText text source → IsSource source → source_of_text text ≡ source

-- any text stands for lines that a source may have
abbrev pub StandsForSource : Type 0
StandsForSource = (text : List ℕ) → IsSource (source_of_text text)
