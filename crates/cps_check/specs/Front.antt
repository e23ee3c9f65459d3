-- The front of an instruction's row. The columns are our own.
use Rattle.std.specs.Prelude.{ℕ, ◌-◌, List, ◌++◌, length, replicate, slice_index, codes, decimal}

abbrev pub blanks : ℕ → List ℕ
blanks count = replicate count (slice_index (codes " ") 0)

-- a text at the left of so many columns
abbrev pub at_left : ℕ → List ℕ → List ℕ
at_left width text = text ++ blanks (width - length text)

-- a name, operands, and how many bits the code has
abbrev pub front : List ℕ → List ℕ → ℕ → List ℕ
front name operands bits = at_left 6 name ++ at_left 10 operands ++ decimal bits ++ codes " bits  "
