-- What holds of all texts.
use Rattle.std.specs.Prelude.{◌≡◌, ℕ, ◌≤◌, ◌↔◌, false, List, [], ◌∷◌, ◌++◌, length, take, drop, Option, slice_index}
use Rattle.std.specs.List.{splice}
use Rattle.cps_input.specs.Lines.{Splits, HasText}
use Rattle.cps_rpc.specs.declared.encoding.Encoding.{Encoding}
use Rattle.cps_rpc.specs.declared.position.Range.{Range}
use Rattle.cps_rpc.specs.declared.replacement.Replacement.{Replacement}
use Rattle.cps_rpc.specs.Changes.{IsReplacement}
use Rattle.cps_rpc.specs.Lines.{text_lines, text_of, source_lines}
use Rattle.cps_rpc.specs.Positions.{is_continuation, place_in, units_before}

-- a text is that of its lines
abbrev pub LinesMakeText : Type 0
LinesMakeText = (text : List ℕ) → text_of (text_lines text) ≡ text

-- batch assembly cuts a text into the same lines
abbrev pub LinesAreSplit : Type 0
LinesAreSplit = (text : List ℕ) (lines : List (List ℕ)) (rest : List ℕ) → Splits text lines rest ↔ (text_lines text ≡ lines ++ rest ∷ [])

-- batch assembly reads a text as the source that it stands for, and as no other
abbrev pub SourceIsRead : Type 0
SourceIsRead = (text : List ℕ) (source : List (List ℕ)) → HasText text source ↔ (source ≡ source_lines text)

-- what a replacement tells of the lines of two texts, it tells of their sources: of these only the text's last line may be missing
pub record IsInSource (old new : List ℕ) (replacement : Replacement) : Type 0 where
  pub in_old : replacement.first ≤ length (source_lines old)
  pub in_new : replacement.first ≤ length (source_lines new)
  pub lines : source_lines new
      ≡ splice (source_lines old) replacement.first replacement.end (take replacement.count (drop replacement.first (source_lines new)))

-- a replacement in a text is one in its source, by the same numbers
abbrev pub SourceIsReplaced : Type 0
SourceIsReplaced = (old new : List ℕ) (range : Option Range) (replacement : Replacement) → IsReplacement old range new replacement → IsInSource old new replacement

-- the units before a place at which a character begins, or a line ends, tell that place
abbrev pub UnitsTellPlace : Type 0
UnitsTellPlace = (encoding : Encoding) (line : List ℕ) (place : ℕ) → place ≤ length line → is_continuation (slice_index line place) ≡ false
    → place_in encoding line (units_before encoding line place) ≡ place
