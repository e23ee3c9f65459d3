-- What instructions do. No definition fixes the words.
use Rattle.std.specs.Prelude.{ℕ, List, [], ◌∷◌, bytes_eq, if◌then◌else◌}

-- words on the forms of an operation: on the operands as a row has them, of a peripheral processor on the name
abbrev pub Sentences : Type 0
Sentences = List (List ℕ × List ℕ)

-- the words on a text, nothing where there are none
abbrev pub words_among : Sentences → List ℕ → List ℕ
words_among [] shown = []
words_among (s ∷ sentences) shown = if bytes_eq s.0 shown then s.1 else words_among sentences shown
