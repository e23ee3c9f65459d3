-- For the code that exchanges lines, not part of what a reader believes: the lengths of pieces.
use Rattle.std.specs.Prelude.{◌≡◌, ℕ, ◌+◌, ◌-◌, ◌<◌, ◌≤◌, nat_lt, List, [], ◌∷◌, ◌++◌, length, get_or, take, drop, map, reverse, sum, Option, None, Some, if◌then◌else◌}
use Rattle.cps_edit.specs.Numbers.{numbers}
use Rattle.cps_chunk.specs.Division.{AreChunks}
use Rattle.cps_chunk.specs.Exchange.{numbers_of}
use Rattle.cps_chunk.specs.declared.exchange.RecutChunk.{RecutChunk}

abbrev pub lines_of : List RecutChunk → List ℕ
lines_of pieces = map (λ (piece : RecutChunk). piece.lines) pieces

-- of pieces that stand in the other order
abbrev pub lines_in : List RecutChunk → List ℕ
lines_in pieces = reverse (lines_of pieces)

-- so many, or as many as there are
abbrev pub cut_to : ℕ → ℕ → ℕ
cut_to to lines = if nat_lt to lines then to else lines

-- the numbers of a chunk's lines are not those of an old chunk
abbrev pub AreOfNone : List ℕ → List ℕ → Type 0
AreOfNone lengths ms = (j : ℕ) → j < length lengths → ms ≡ numbers_of j lengths → ⊥

-- they are those of the old chunk that is named, or, where none is, of none
abbrev pub AreNamed : List ℕ → Option ℕ → List ℕ → Type 0
AreNamed lengths None ms = AreOfNone lengths ms
AreNamed lengths (Some i) ms = (i < length lengths) × (ms ≡ numbers_of i lengths)

-- pieces have the lines of these numbers, one behind another
abbrev pub ArePieces : List ℕ → List RecutChunk → List ℕ → Type 0
ArePieces lengths [] ms = ms ≡ []
ArePieces lengths (piece ∷ pieces) ms =
    (1 ≤ piece.lines) × (piece.lines ≤ length ms) × AreNamed lengths piece.old (take piece.lines ms) × ArePieces lengths pieces (drop piece.lines ms)

-- lines may be set before others: with none behind them that begin as those do they are an old chunk
pub record MayStandBefore (lengths : List ℕ) (lines : ℕ) (old : Option ℕ) (ms more : List ℕ) : Type 0 where
  pub count : length ms ≡ lines
  pub named : AreNamed lengths old ms
  pub longer : (others : List ℕ) → 0 < length others → get_or others 0 0 ≡ get_or more 0 0 → AreOfNone lengths (ms ++ others)

-- the numbers of the lines of a chunk from one on up to another
abbrev pub part_numbers : List ℕ → ℕ → ℕ → ℕ → List ℕ
part_numbers lengths chunk from end = numbers (sum (take chunk lengths) + from) (end - from)

-- other lines don't go on where a part of a chunk ends
abbrev pub GoesNotOn : ℕ → List ℕ → Type 0
GoesNotOn at more = 0 < length more → get_or more 0 0 ≡ at → ⊥

-- the lines that a part of a chunk has: none, or so many in one piece
abbrev pub part_lines : ℕ → ℕ → List ℕ
part_lines from end = if nat_lt from end then (end - from) ∷ [] else []

-- ---- lines set before pieces that stand in the other order, whatever numbers the lines of these have

-- lines of one chunk or of none
abbrev pub SetsOne : List RecutChunk → List RecutChunk → ℕ → Option ℕ → Type 0
SetsOne old new lines chunk = (lengths ms more : List ℕ) → ArePieces lengths (reverse old) more
    → MayStandBefore lengths lines chunk ms more → ArePieces lengths (reverse new) (ms ++ more)

-- the lines of a chunk of so many lines from one on up to another
abbrev pub SetsPart : List RecutChunk → List RecutChunk → ℕ → ℕ → ℕ → ℕ → Type 0
SetsPart old new chunk lines from end = (lengths more : List ℕ) → AreChunks lengths → chunk < length lengths → lines ≡ get_or lengths chunk 0
    → (from < end → end < lines → GoesNotOn (sum (take chunk lengths) + end) more)
    → ArePieces lengths (reverse old) more → ArePieces lengths (reverse new) (part_numbers lengths chunk from end ++ more)

-- lines of several chunks from one number on up to another
abbrev pub SetsRun : List ℕ → List RecutChunk → List RecutChunk → ℕ → ℕ → Type 0
SetsRun lengths old new from to = (more : List ℕ) → GoesNotOn to more
    → ArePieces lengths (reverse old) more → ArePieces lengths (reverse new) (numbers from (to - from) ++ more)
