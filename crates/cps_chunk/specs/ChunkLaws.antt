-- Which chunks of the new division are old ones where lines come in the place of others, and which stay. Our own.
use Rattle.std.specs.Prelude.{◌≡◌, ◌⊎◌, ◌↔◌, ℕ, ◌+◌, ◌-◌, ◌<◌, ◌≤◌, List, ◌++◌, length, get_or, take, drop, map, replicate, sum, Option, None, Some}
use Rattle.cps_edit.specs.Numbers.{numbers}
use Rattle.cps_chunk.specs.Division.{IsDivision, chunk_of, inserted_at, deleted_at}
use Rattle.cps_chunk.specs.Exchange.{numbers_of}
use Rattle.cps_chunk.specs.Put.{put_at}
use Rattle.cps_chunk.specs.Staying.{stay_in_front, stay_behind}

-- ---- which chunks are old ones

-- The numbers that the lines of the new source had, from 0 on: so many lines come in the place of those after the first `keep` up to the first `from`. None: the
-- line is new.
abbrev pub counterparts : ℕ → ℕ → ℕ → ℕ → List (Option ℕ)
counterparts count keep from come = map Some (numbers 0 keep) ++ (replicate come None ++ map Some (numbers from (count - from)))

-- those of the lines of one chunk
abbrev pub counterparts_in : List (Option ℕ) → List ℕ → ℕ → List (Option ℕ)
counterparts_in all news j = take (get_or news j 0) (drop (sum (take j news)) all)

-- a chunk of the new division is an old one by lengths: one of those that stay in front, with the same number, or behind, with the same number from the end
abbrev pub Stays : ℕ → ℕ → ℕ → List ℕ → List ℕ → ℕ → ℕ → Type 0
Stays count keep from olds news j i =
    ((j < stay_in_front keep olds news) × (j ≡ i)) ⊎ ((length news - stay_behind (count - from) olds news ≤ j) × (j + length olds ≡ i + length news))

-- It is one exactly if all its lines have counterparts, and these are the lines of that chunk: all of them, in order.
abbrev pub StaysByCounterparts : Type 0
StaysByCounterparts = (keep from come count : ℕ) (olds news : List ℕ) → IsDivision count olds → keep ≤ from → from ≤ count → 0 < (from - keep) + come
    → news ≡ put_at keep (from - keep) come olds → (j i : ℕ) → j < length news → i < length olds
    → Stays count keep from olds news j i ↔ (counterparts_in (counterparts count keep from come) news j ≡ map Some (numbers_of i olds))

-- ---- which chunks stay

-- all stay but those of the lines that go, the one before them and the next two
abbrev pub PutsStay : Type 0
PutsStay = (keep gone come count : ℕ) (lengths : List ℕ) → IsDivision count lengths → keep + gone ≤ count
    → (changed : List ℕ)
    × (put_at keep gone come lengths ≡ take (chunk_of (keep + 1) lengths - 1) lengths ++ (changed ++ drop 3 (drop (chunk_of (keep + gone) lengths) lengths)))

-- ---- single edits

-- An insertion, a replacement and a deletion of lines are puts; and one line more is one more insertion behind the others.
abbrev pub PutsAreEdits : Type 0
PutsAreEdits = (keep gone : ℕ) (lengths : List ℕ)
    → (put_at keep 0 1 lengths ≡ inserted_at keep lengths)
    × (put_at keep 1 1 lengths ≡ lengths)
    × (0 < gone → put_at keep gone 0 lengths ≡ deleted_at keep gone lengths)
    × ((come : ℕ) → gone ≤ come → put_at keep gone (come + 1) lengths ≡ inserted_at (keep + come) (put_at keep gone come lengths))
