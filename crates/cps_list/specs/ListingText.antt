-- The listing: the rows of each line, and a last row where the source ends while a range is open.
use Rattle.std.specs.Prelude.{ℕ, ◌+◌, List, [], ◌∷◌, ◌++◌}
use Rattle.cps_final.specs.Outcome.{Outcome}
use Rattle.cps_list.specs.Assembly.{Assembly}
pub use Rattle.cps_list.specs.Listing.{line_rows, open_row}

-- the rows of lines that have numbers from one on
abbrev pub listing_from : ℕ → List (List ℕ) → List Outcome → List ℕ
listing_from number [] outcomes = []
listing_from number (line ∷ lines) [] = []
listing_from number (line ∷ lines) (outcome ∷ outcomes) = line_rows number line outcome.rows ++ listing_from (number + 1) lines outcomes

abbrev pub listing_text : Assembly → List ℕ
listing_text assembly = listing_from 1 assembly.lines assembly.outcomes ++ open_row assembly.is_open
