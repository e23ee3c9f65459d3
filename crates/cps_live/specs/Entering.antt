-- The lines that a source begins with. Our own.
use Rattle.std.specs.Prelude.{◌≡◌, ℕ, ◌+◌, ◌/◌, ◌%◌, List, [], ◌++◌, replicate}
use Rattle.cps_chunk.specs.Division.{full, joined, IsDivision, inserted_at}

-- The division of lines with which a source begins: full chunks from the front on, and a last one of what is left.
abbrev pub full_chunks : ℕ → List ℕ
full_chunks count = replicate (count / full) full ++ joined (count % full) []

-- It is a division of so many lines, and the one that they have where they are entered one by one, each behind the last. So edits find the same chunks
-- whichever way a source was entered.
abbrev pub Entries : Type 0
Entries =
    (full_chunks 0 ≡ [])
    × ((count : ℕ) → IsDivision count (full_chunks count) × (inserted_at count (full_chunks count) ≡ full_chunks (count + 1)))
