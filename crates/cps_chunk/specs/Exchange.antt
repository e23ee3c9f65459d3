-- What becomes of the division where two runs of lines that stand side by side change places, by the lengths of chunks alone. Our own.
use Rattle.std.specs.Prelude.{◌≡◌, ℕ, suc, ◌+◌, ◌-◌, ◌<◌, ◌≤◌, nat_lt, List, [], ◌∷◌, ◌++◌, length, get_or, take, drop, sum, if◌then◌else◌}
use Rattle.cps_edit.specs.declared.exchange.Exchange.{Exchange}
use Rattle.cps_edit.specs.Exchange.{IsWithin, is_idle}
use Rattle.cps_edit.specs.Numbers.{numbers}
use Rattle.cps_chunk.specs.Division.{AreChunks, IsDivision, joined}

-- what so many lines in front have of chunks, and what the lines behind them have
abbrev pub front_of : ℕ → List ℕ → List ℕ
front_of lines [] = []
front_of lines (n ∷ lengths) = if nat_lt lines n then (if nat_lt 0 lines then lines ∷ [] else []) else n ∷ front_of (lines - n) lengths

abbrev pub behind_of : ℕ → List ℕ → List ℕ
behind_of lines [] = []
behind_of lines (n ∷ lengths) = if nat_lt lines n then (n - lines) ∷ lengths else behind_of (lines - n) lengths

-- what the lines between have
abbrev pub part_of : ℕ → ℕ → List ℕ → List ℕ
part_of from to lengths = behind_of from (front_of to lengths)

-- pieces set before chunks one by one, the last first
abbrev pub rejoined : List ℕ → List ℕ → List ℕ
rejoined [] lengths = lengths
rejoined (n ∷ pieces) lengths = joined n (rejoined pieces lengths)

-- chunks of which two runs of lines have changed places
abbrev pub exchanged_at : Exchange → List ℕ → List ℕ
exchanged_at e lengths =
    rejoined (front_of e.keep lengths)
    (rejoined (part_of e.mid e.from lengths) (rejoined (part_of e.keep e.mid lengths) (rejoined (behind_of e.from lengths) [])))

-- a move that changes no place leaves the division as it is
abbrev pub moved_at : Exchange → List ℕ → List ℕ
moved_at e lengths = if is_idle e then lengths else exchanged_at e lengths

-- how many chunks lie wholly among the first lines, and how many begin there
abbrev pub whole : ℕ → List ℕ → ℕ
whole lines [] = 0
whole lines (n ∷ lengths) = if nat_lt lines n then 0 else suc (whole (lines - n) lengths)

abbrev pub begun : ℕ → List ℕ → ℕ
begun lines [] = 0
begun lines (n ∷ lengths) = if nat_lt 0 lines then suc (begun (lines - n) lengths) else 0

-- of the chunks that lie wholly in a run of lines all stay but the first and the last
abbrev pub inner : ℕ → ℕ → List ℕ → List ℕ
inner from to lengths = drop (begun from lengths + 1) (take (whole to lengths - 1) lengths)

-- In each of the two runs all chunks stay that lie wholly in it, but the first and the last of them; so do those in front of both but the last, and those
-- behind both but the first.
abbrev pub Exchanges : Type 0
Exchanges = (e : Exchange) (count : ℕ) (lengths : List ℕ) → IsDivision count lengths → IsWithin count e
    → IsDivision count (exchanged_at e lengths)
    × ((a b c : List ℕ) × (exchanged_at e lengths
    ≡ take (whole e.keep lengths - 1) lengths
    ++ (a ++ (inner e.mid e.from lengths ++ (b ++ (inner e.keep e.mid lengths ++ (c ++ drop (begun e.from lengths + 1) lengths)))))))

-- ---- which chunks are old ones

-- the numbers of the lines of a chunk
abbrev pub numbers_of : ℕ → List ℕ → List ℕ
numbers_of i lengths = numbers (sum (take i lengths)) (get_or lengths i 0)

-- lines that begin with those of a chunk from one number on up to another, with others behind them: none other where these are not all of it, and not the next line
pub record BeginsWithPart (lengths : List ℕ) (i from to : ℕ) (others : List ℕ) : Type 0 where
  pub within : i < length lengths
  pub begins : sum (take i lengths) ≤ from
  pub some : from < to
  pub ends : to ≤ sum (take i lengths) + get_or lengths i 0
  pub alone : others ≡ [] → to - from < get_or lengths i 0
  pub seam : 0 < length others → to < sum (take i lengths) + get_or lengths i 0 → get_or others 0 0 ≡ to → ⊥

-- they are not those of an old chunk
abbrev pub PartsAreNew : Type 0
PartsAreNew = (lengths : List ℕ) → AreChunks lengths → (i from to : ℕ) (others : List ℕ) → BeginsWithPart lengths i from to others
    → (j : ℕ) → j < length lengths → numbers from (to - from) ++ others ≡ numbers_of j lengths → ⊥
