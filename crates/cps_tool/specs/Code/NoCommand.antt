-- For the code that reads a command, not part of what a reader believes: bytes that are not what is sought there.
use Rattle.std.specs.Prelude.{ℕ, List}
use Rattle.cps_tool.specs.Command.{IsNumbered, IsMove}

-- they are no line's number with a text behind it
abbrev pub IsUnnumbered : List ℕ → Type 0
IsUnnumbered bytes = (number : ℕ) (text : List ℕ) → IsNumbered bytes number text → ⊥

-- they are not the three numbers of a move
abbrev pub IsNoMove : List ℕ → Type 0
IsNoMove bytes = (first last after : ℕ) → IsMove bytes first last after → ⊥
