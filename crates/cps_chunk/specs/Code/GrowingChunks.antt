-- For the code that inserts lines, not part of what a reader believes: chunks that are done with, and those that are left.
use Rattle.std.specs.Prelude.{ℕ, ◌≤◌, List, [], ◌∷◌, ◌++◌, reverse}
use Rattle.cps_chunk.specs.Division.{AreChunks}
use Rattle.cps_chunk.specs.Put.{inserted_each}
use Rattle.cps_chunk.specs.declared.growing_chunks.GrowingChunks.{GrowingChunks}

-- so many lines stand in the first chunk, or there is no other
abbrev pub StandInFirst : ℕ → List ℕ → Type 0
StandInFirst at [] = Unit {0}
StandInFirst at (n ∷ []) = Unit {0}
StandInFirst at (n ∷ next ∷ lengths) = at ≤ n

-- the next line comes into the first of the chunks that are left
pub record IsFilling (filling : GrowingChunks) : Type 0 where
  pub chunks : AreChunks (reverse filling.left.items)
  pub first : StandInFirst filling.at (reverse filling.left.items)

-- the chunks with so many lines more
abbrev pub filled : ℕ → GrowingChunks → List ℕ
filled count filling = filling.done.items ++ inserted_each filling.at count (reverse filling.left.items)
