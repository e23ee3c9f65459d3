-- What stays of a line while its blanks change. Our own.
use Prim.Native.Char.{code}
use Rattle.std.specs.Prelude.{ℕ, ◌==◌, List, filter, not}

-- the characters of a line beside its blanks
abbrev pub unblanked : List ℕ → List ℕ
unblanked line = filter (λ character. not (character == code " ")) line
