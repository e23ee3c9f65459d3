-- What a change makes of a text. From the Language Server Protocol 3.17.
use Rattle.std.specs.Prelude.{◌≡◌, ℕ, ◌+◌, ◌<◌, max, List, length, Option, Some, None}
use Rattle.std.specs.List.{splice}
use Rattle.cps_rpc.specs.declared.encoding.Encoding.{Encoding}
use Rattle.cps_rpc.specs.declared.position.Range.{Range}
use Rattle.cps_rpc.specs.declared.replacement.Replacement.{Replacement}
use Rattle.cps_rpc.specs.Lines.{text_lines}
use Rattle.cps_rpc.specs.Positions.{place_of, line_of}

-- A text with new text in the place of a range, or, where no range is told, of all of it. An end that stands before the start counts as the start.
abbrev pub changed : Encoding → List ℕ → Option Range → List ℕ → List ℕ
changed encoding text None new = new
changed encoding text (Some range) new =
    let start = place_of encoding (text_lines text) range.start in
    let end = place_of encoding (text_lines text) range.end in
    splice text start (max start end) new

-- the first of the lines that a range touches, or, where none is told, of all lines
abbrev pub first_touched : List (List ℕ) → Option Range → ℕ
first_touched lines None = 0
first_touched lines (Some range) = line_of lines range.start

-- the first line behind those
abbrev pub end_touched : List (List ℕ) → Option Range → ℕ
end_touched lines None = length lines
end_touched lines (Some range) = max (line_of lines range.start) (line_of lines range.end) + 1

-- of a text's lines those that a range touches, and no others, gave way to new ones
pub record IsReplacement (old : List ℕ) (range : Option Range) (new : List ℕ) (replacement : Replacement) : Type 0 where
  pub news : List (List ℕ)
  pub first : replacement.first ≡ first_touched (text_lines old) range
  pub end : replacement.end ≡ end_touched (text_lines old) range
  pub count : replacement.count ≡ length news
  pub some : 0 < length news
  pub lines : text_lines new ≡ splice (text_lines old) replacement.first replacement.end news
