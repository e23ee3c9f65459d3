-- The lines of a text that is changed, and the source that it stands for. Our own.
use Rattle.std.specs.Prelude.{◌≡◌, ℕ, ◌<◌, ◌==◌, true, List, [], ◌∷◌, length}
use Rattle.std.specs.List.{list_all, slice_split, join_with_byte}
use Rattle.cps_input.specs.Lines.{newline, has_no_newline, without_return, last_line}

-- the lines of a text, cut at its newlines; the last is what stands behind them all
abbrev pub text_lines : List ℕ → List (List ℕ)
text_lines text = slice_split (λ byte. byte == newline) text

-- lines that a text can have: one at least, and no newline in any
pub record AreLines (lines : List (List ℕ)) : Type 0 where
  pub some : 0 < length lines
  pub each : list_all has_no_newline lines ≡ true

-- the text of lines
abbrev pub text_of : List (List ℕ) → List ℕ
text_of lines = join_with_byte newline lines

-- what batch assembly reads of lines: each without the carriage return at its end, the last if it has a byte
abbrev pub source_of : List (List ℕ) → List (List ℕ)
source_of [] = []
source_of (line ∷ []) = last_line line
source_of (line ∷ next ∷ lines) = without_return line ∷ source_of (next ∷ lines)

-- the source that a text stands for
abbrev pub source_lines : List ℕ → List (List ℕ)
source_lines text = source_of (text_lines text)
