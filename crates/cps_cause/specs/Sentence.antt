-- Words that tell something: in one row, so that nothing which stands in a source begins another. Our own.
use Prim.Native.Char.{code}
use Rattle.std.specs.Prelude.{◌≡◌, ℕ, ◌<◌, true, List, length, map, if◌then◌else◌}
use Rattle.cps_input.specs.Shown.{is_control, has_no_control}

-- a text with `?` in the place of each control character
abbrev pub cleaned_byte : ℕ → ℕ
cleaned_byte byte = if is_control byte then code "?" else byte

abbrev pub cleaned : List ℕ → List ℕ
cleaned text = map cleaned_byte text

-- some words, and no control character among them
pub record IsSentence (words : List ℕ) : Type 0 where
  pub some : 0 < length words
  pub row : has_no_control words ≡ true
