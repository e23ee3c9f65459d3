-- Bytes cut into lines. Our own.
use Rattle.std.specs.Prelude.{◌≡◌, ℕ, Bool, true, not, ◌==◌, List, [], ◌∷◌, ◌++◌, codes, flat_map, map, length, if◌then◌else◌, nat_lt, ◌&&◌, ◌-◌, slice_index, take}
use Rattle.std.specs.List.{list_all}

-- the byte that ends a line
abbrev pub newline : ℕ
newline = slice_index (codes "\n") 0

-- the byte that may stand before a newline, and is dropped there
abbrev pub carriage_return : ℕ
carriage_return = slice_index (codes "\r") 0

-- no byte is a newline
abbrev pub has_no_newline : List ℕ → Bool
has_no_newline line = list_all (λ byte. not (byte == newline)) line

-- bytes cut at their newlines: the lines that end with one, and what stands after the last
pub record Splits (bytes : List ℕ) (lines : List (List ℕ)) (rest : List ℕ) : Type 0 where
  pub whole : bytes ≡ flat_map (λ line. line ++ newline ∷ []) lines ++ rest
  pub each : list_all has_no_newline lines ≡ true
  pub last : has_no_newline rest ≡ true

-- a line without the carriage return at its end
abbrev pub without_return : List ℕ → List ℕ
without_return line =
    if nat_lt 0 (length line) && (slice_index line (length line - 1) == carriage_return) then take (length line - 1) line else line

-- a last line without a newline counts if it has a byte
abbrev pub last_line : List ℕ → List (List ℕ)
last_line [] = []
last_line (b ∷ bytes) = without_return (b ∷ bytes) ∷ []

-- the lines of a text that was cut so: those that a newline ended, and the last one if it has a byte
abbrev pub lines_of : List (List ℕ) → List ℕ → List (List ℕ)
lines_of lines rest = map without_return lines ++ last_line rest

-- a text has these lines
pub record HasText (bytes : List ℕ) (source : List (List ℕ)) : Type 0 where
  pub lines : List (List ℕ)
  pub rest : List ℕ
  pub splits : Splits bytes lines rest
  pub all : source ≡ lines_of lines rest
