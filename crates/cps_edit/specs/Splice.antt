-- An edit of a source as a splice: lines in the place of others. Our own.
use Rattle.std.specs.Prelude.{ℕ, ◌-◌, List, [], ◌∷◌, ◌++◌, take, drop}

-- new lines, in the place of those that stand after the first `keep` and among the first `from`
pub record Splice : Type 0 where
  pub keep : ℕ
  pub from : ℕ
  pub new : List (List ℕ)

abbrev pub splice_at : ℕ → ℕ → List (List ℕ) → Splice
splice_at keep from new = record { keep = keep; from = from; new = new }

-- the source after it
abbrev pub spliced : List (List ℕ) → Splice → List (List ℕ)
spliced lines splice = take splice.keep lines ++ (splice.new ++ drop splice.from lines)

-- a line after so many others
abbrev pub insertion : ℕ → List ℕ → Splice
insertion after line = splice_at after after (line ∷ [])

-- a line in the place of that of a number, where lines count from 1
abbrev pub replacement : ℕ → List ℕ → Splice
replacement at line = splice_at (at - 1) at (line ∷ [])

-- no line in the place of those from one number to another
abbrev pub deletion : ℕ → ℕ → Splice
deletion first last = splice_at (first - 1) last []
