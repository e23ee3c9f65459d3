-- The division of a source into chunks, by their lengths alone, and what an edit makes of it. Our own.
use Rattle.std.specs.Prelude.{◌≡◌, ℕ, suc, ◌+◌, ◌-◌, ◌≤◌, ◌<◌, nat_lt, List, [], ◌∷◌, ◌++◌, take, drop, sum, if◌then◌else◌}
use Rattle.cps_text.specs.declared.limits.TheConstants.{MOST_CHUNK_LINES}

-- a chunk has at most so many lines
abbrev pub full : ℕ
full = MOST_CHUNK_LINES

-- a chunk and the next one don't fit in one
abbrev pub IsApart : ℕ → List ℕ → Type 0
IsApart n [] = Unit {0}
IsApart n (next ∷ lengths) = full < n + next

-- no chunk is empty or more than full, and no two neighbours fit in one
abbrev pub AreChunks : List ℕ → Type 0
AreChunks [] = Unit {0}
AreChunks (n ∷ lengths) = (1 ≤ n) × (n ≤ full) × IsApart n lengths × AreChunks lengths

-- they are the chunks of so many lines
pub record IsDivision (count : ℕ) (lengths : List ℕ) : Type 0 where
  pub chunks : AreChunks lengths
  pub total : sum lengths ≡ count

-- so many lines set before chunks: with the first of them where both fit in one
abbrev pub joined : ℕ → List ℕ → List ℕ
joined n [] = if nat_lt 0 n then n ∷ [] else []
joined n (next ∷ lengths) = if nat_lt full (n + next) then n ∷ next ∷ lengths else (n + next) ∷ lengths

-- all chunks stay but those from one number on, up to another and the next one
abbrev pub StayAround : ℕ → ℕ → List ℕ → List ℕ → Type 0
StayAround from to olds news = (changed : List ℕ) × (news ≡ take from olds ++ (changed ++ drop 2 (drop to olds)))

-- the number, from 0 on, of the chunk that has the line of a number; the first for 0, and the last for one too many
abbrev pub chunk_of : ℕ → List ℕ → ℕ
chunk_of at [] = 0
chunk_of at (n ∷ []) = 0
chunk_of at (n ∷ next ∷ lengths) = if nat_lt n at then suc (chunk_of (at - n) (next ∷ lengths)) else 0

-- ---- an insertion

-- one line more in a chunk: a full one hands its last line on to the next
abbrev pub grown : ℕ → List ℕ → List ℕ
grown n lengths = if nat_lt n full then (n + 1) ∷ lengths else full ∷ joined 1 lengths

-- one line more after so many others
abbrev pub inserted_at : ℕ → List ℕ → List ℕ
inserted_at after [] = 1 ∷ []
inserted_at after (n ∷ []) = grown n []
inserted_at after (n ∷ next ∷ lengths) = if nat_lt n after then n ∷ inserted_at (after - n) (next ∷ lengths) else grown n (next ∷ lengths)

-- all chunks stay but that of the line before, and the next one
abbrev pub Insertions : Type 0
Insertions = (after count : ℕ) (lengths : List ℕ) → IsDivision count lengths
    → IsDivision (count + 1) (inserted_at after lengths) × StayAround (chunk_of after lengths) (chunk_of after lengths) lengths (inserted_at after lengths)

-- ---- a deletion

-- chunks without the first lines
abbrev pub without : ℕ → List ℕ → List ℕ
without count [] = []
without count (n ∷ lengths) = if nat_lt count n then joined (n - count) lengths else without (count - n) lengths

-- chunks without so many lines, after those of the first chunk that are kept
abbrev pub cut_in : ℕ → ℕ → ℕ → List ℕ → List ℕ
cut_in n keep count lengths =
    if nat_lt (n - keep) count then joined keep (without (count - (n - keep)) lengths) else joined keep (joined (n - keep - count) lengths)

-- chunks without so many lines, after those that are kept
abbrev pub deleted_at : ℕ → ℕ → List ℕ → List ℕ
deleted_at keep count [] = []
deleted_at keep count (n ∷ lengths) = if nat_lt keep n then cut_in n keep count lengths else joined n (deleted_at (keep - n) count lengths)

-- all chunks stay but those of the lines that go, the one before them and the next one
abbrev pub Deletions : Type 0
Deletions = (keep gone count : ℕ) (lengths : List ℕ) → IsDivision count lengths → keep + gone ≤ count
    → IsDivision (count - gone) (deleted_at keep gone lengths)
    × StayAround (chunk_of (keep + 1) lengths - 1) (chunk_of (keep + gone) lengths) lengths (deleted_at keep gone lengths)

-- ---- a join

-- it changes the first chunk alone; and where that one only grew, the one before it stays
abbrev pub Joins : Type 0
Joins = (n next : ℕ) (lengths : List ℕ)
    → ((changed : List ℕ) × (joined n (next ∷ lengths) ≡ changed ++ lengths))
    × (full < n + next → 1 ≤ next → joined n (joined next lengths) ≡ n ∷ joined next lengths)
