-- Which chunks stay at an edit: those in front of it and those behind it that are the same in both divisions, counted from the front and from the end. Our own.
use Rattle.std.specs.Prelude.{◌≡◌, ℕ, suc, ◌-◌, nat_lt, nat_eq, List, [], ◌∷◌, length, reverse, if◌then◌else◌}
use Rattle.cps_chunk.specs.Recut.{recut}

-- how many chunks from the front are the same in two divisions and lie within so many lines
abbrev pub same_front : ℕ → List ℕ → List ℕ → ℕ
same_front lines [] news = 0
same_front lines (n ∷ olds) [] = 0
same_front lines (n ∷ olds) (m ∷ news) = if nat_eq n m then (if nat_lt lines n then 0 else suc (same_front (lines - n) olds news)) else 0

-- how many stay in front of an edit that keeps so many lines there, and how many behind one that keeps so many there
abbrev pub stay_in_front : ℕ → List ℕ → List ℕ → ℕ
stay_in_front keep olds news = same_front keep olds news

abbrev pub stay_behind : ℕ → List ℕ → List ℕ → ℕ
stay_behind behind olds news = same_front behind (reverse olds) (reverse news)

-- chunks from one number on, up to another, give way to others, and all that stay are outside
pub record IsTight (keep behind start end : ℕ) (news olds : List ℕ) : Type 0 where
  pub front : start ≡ stay_in_front keep olds (recut start end news olds)
  pub back : length olds - end ≡ stay_behind behind olds (recut start end news olds)
