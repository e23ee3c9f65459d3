-- Worked divisions. The lengths were worked out by hand.
use Rattle.std.proofs.Common.{◌≡◌, ℕ, List, refl, [], ◌∷◌}
use Rattle.cps_chunk.specs.Division.{inserted_at, deleted_at, chunk_of}
use Rattle.cps_chunk.specs.Put.{put_at}
use Rattle.cps_chunk.specs.Recut.{recut}
use Rattle.cps_chunk.specs.Staying.{IsTight, same_front}

-- the first line
first-line : inserted_at 0 [] ≡ 1 ∷ []
first-line = refl

-- behind the last, in front of the first, and in the middle
at-end : inserted_at 70 (64 ∷ 6 ∷ []) ≡ 64 ∷ 7 ∷ []
at-end = refl

in-front : inserted_at 0 (40 ∷ 30 ∷ []) ≡ 41 ∷ 30 ∷ []
in-front = refl

behind-a-chunk : inserted_at 40 (40 ∷ 30 ∷ []) ≡ 41 ∷ 30 ∷ []
behind-a-chunk = refl

-- a full chunk hands its last line on, or to a chunk of its own
handed-on : inserted_at 10 (64 ∷ 30 ∷ 50 ∷ []) ≡ 64 ∷ 31 ∷ 50 ∷ []
handed-on = refl

split-at-end : inserted_at 64 (64 ∷ []) ≡ 64 ∷ 1 ∷ []
split-at-end = refl

split-between : inserted_at 1 (64 ∷ 64 ∷ []) ≡ 64 ∷ 1 ∷ 64 ∷ []
split-between = refl

-- a chunk falls to nothing
whole-chunk : deleted_at 64 64 (64 ∷ 64 ∷ 64 ∷ []) ≡ 64 ∷ 64 ∷ []
whole-chunk = refl

everything : deleted_at 0 94 (64 ∷ 30 ∷ []) ≡ []
everything = refl

-- neighbours that fit in one are joined: with the chunk behind, with that before, and with both
joined-behind : deleted_at 0 1 (64 ∷ 1 ∷ []) ≡ 64 ∷ []
joined-behind = refl

joined-before : deleted_at 41 29 (40 ∷ 30 ∷ 64 ∷ []) ≡ 41 ∷ 64 ∷ []
joined-before = refl

joined-both : deleted_at 33 50 (32 ∷ 52 ∷ 31 ∷ []) ≡ 32 ∷ 33 ∷ []
joined-both = refl

-- what is left of the first and of the last chunk that is cut stays apart, or is joined
apart : deleted_at 30 40 (64 ∷ 64 ∷ 64 ∷ []) ≡ 30 ∷ 58 ∷ 64 ∷ []
apart = refl

joined-over : deleted_at 10 100 (64 ∷ 64 ∷ 64 ∷ []) ≡ 28 ∷ 64 ∷ []
joined-over = refl

-- the chunk of a line
of-lines : chunk_of 64 (64 ∷ 30 ∷ []) ∷ chunk_of 65 (64 ∷ 30 ∷ []) ∷ chunk_of 95 (64 ∷ 30 ∷ []) ∷ [] ≡ 0 ∷ 1 ∷ 1 ∷ []
of-lines = refl

-- ---- which chunks stay

-- chunks of these lengths give way, and no others
pub record IsRow (keep behind start end : ℕ) (news olds whole : List ℕ) : Type 0 where
  pub whole_is : recut start end news olds ≡ whole
  pub tight : IsTight keep behind start end news olds

-- a chunk that is the same counts only where all its lines stand in front
in-front-only : same_front 64 (64 ∷ 30 ∷ []) (64 ∷ 30 ∷ []) ∷ same_front 63 (64 ∷ 30 ∷ []) (64 ∷ 30 ∷ []) ∷ same_front 94 (64 ∷ 30 ∷ []) (64 ∷ 29 ∷ []) ∷ [] ≡ 1 ∷ 0 ∷ 1 ∷ []
in-front-only = refl

-- the first line
the-first : IsRow 0 0 0 0 (1 ∷ []) [] (inserted_at 0 [])
the-first = record { whole_is = refl; tight = record { front = refl; back = refl } }

-- a line behind the last one of a full chunk, and in it
behind-full : IsRow 64 64 1 1 (1 ∷ []) (64 ∷ 64 ∷ []) (inserted_at 64 (64 ∷ 64 ∷ []))
behind-full = record { whole_is = refl; tight = record { front = refl; back = refl } }

in-full : IsRow 1 127 0 1 (64 ∷ 1 ∷ []) (64 ∷ 64 ∷ []) (inserted_at 1 (64 ∷ 64 ∷ []))
in-full = record { whole_is = refl; tight = record { front = refl; back = refl } }

behind-full-next : IsRow 64 80 1 2 (31 ∷ []) (64 ∷ 30 ∷ 50 ∷ []) (inserted_at 64 (64 ∷ 30 ∷ 50 ∷ []))
behind-full-next = record { whole_is = refl; tight = record { front = refl; back = refl } }

-- another line in the place of one: its chunk gives way to one of the same length
in-place : IsRow 69 24 1 2 (30 ∷ []) (64 ∷ 30 ∷ []) (64 ∷ 30 ∷ [])
in-place = record { whole_is = refl; tight = record { front = refl; back = refl } }

-- the last 24 lines of the second go, and neither neighbour is joined
cut-short : IsRow 80 50 1 2 (40 ∷ []) (40 ∷ 64 ∷ 50 ∷ []) (deleted_at 80 24 (40 ∷ 64 ∷ 50 ∷ []))
cut-short = record { whole_is = refl; tight = record { front = refl; back = refl } }

-- the chunk in the middle goes: its neighbours are joined, or stay
middle-joined : IsRow 30 30 0 3 (60 ∷ []) (30 ∷ 40 ∷ 30 ∷ []) (deleted_at 30 40 (30 ∷ 40 ∷ 30 ∷ []))
middle-joined = record { whole_is = refl; tight = record { front = refl; back = refl } }

middle-apart : IsRow 64 64 1 2 [] (64 ∷ 64 ∷ 64 ∷ []) (deleted_at 64 64 (64 ∷ 64 ∷ 64 ∷ []))
middle-apart = record { whole_is = refl; tight = record { front = refl; back = refl } }

-- all lines go
all-gone : IsRow 0 0 0 2 [] (64 ∷ 30 ∷ []) (deleted_at 0 94 (64 ∷ 30 ∷ []))
all-gone = record { whole_is = refl; tight = record { front = refl; back = refl } }

-- ---- several lines

-- as many as there were, fewer, none, and more: those come behind, one by one
put-as-many : put_at 3 2 2 (40 ∷ 30 ∷ []) ≡ 40 ∷ 30 ∷ []
put-as-many = refl

put-fewer : put_at 0 30 1 (40 ∷ 30 ∷ 60 ∷ []) ≡ 41 ∷ 60 ∷ []
put-fewer = refl

put-none : put_at 0 70 0 (40 ∷ 30 ∷ 60 ∷ []) ≡ 60 ∷ []
put-none = refl

put-more : put_at 64 1 3 (64 ∷ 30 ∷ []) ≡ 64 ∷ 32 ∷ []
put-more = refl

-- a full chunk hands lines on until the place is behind it
put-many : put_at 10 0 70 (64 ∷ []) ≡ 64 ∷ 64 ∷ 6 ∷ []
put-many = refl

put-in-front : put_at 0 0 2 (64 ∷ 63 ∷ 64 ∷ []) ≡ 64 ∷ 1 ∷ 64 ∷ 64 ∷ []
put-in-front = refl

put-first : put_at 0 0 66 [] ≡ 64 ∷ 2 ∷ []
put-first = refl
