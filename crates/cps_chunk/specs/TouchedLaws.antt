-- Which chunks an edit touches, by the counterparts of their lines. Our own.
use Rattle.std.specs.Prelude.{◌≡◌, ℕ, ◌+◌, ◌-◌, ◌<◌, ◌≤◌, nat_eq, List, [], ◌∷◌, length, map, Option, None, Some, if◌then◌else◌}
use Rattle.std.specs.Option.{option_eq}
use Rattle.std.specs.Cmp.Lexicographic.{pointwise}
use Rattle.cps_state.specs.Keys.{first_state}
use Rattle.cps_edit.specs.Numbers.{numbers}
use Rattle.cps_chunk.specs.Division.{IsDivision}
use Rattle.cps_chunk.specs.Put.{put_at}
use Rattle.cps_edit.specs.Passes.{traces_of}
use Rattle.cps_edit.specs.Splice.{Splice, spliced}
use Rattle.cps_edit.specs.Disturbed.{finals_in}
use Rattle.cps_chunk.specs.Touched.{cut, touched_from, touched_of}
use Rattle.cps_chunk.specs.ChunkLaws.{counterparts}

-- what the lines of an old chunk did, where these are the counterparts of a new one's lines; None: they are the lines of no old chunk
abbrev pub did_with : {X : Type 0} → List (List ℕ) → List (List X) → List (Option ℕ) → Option (List X)
did_with [] dones found = None
did_with (ns ∷ olds) [] found = None
did_with (ns ∷ olds) (done ∷ dones) found = if pointwise (option_eq nat_eq) (map Some ns) found then Some done else did_with olds dones found

-- the counterparts of the lines of each chunk of the new division
abbrev pub counterparts_of : List (List ℕ) → Splice → List ℕ → List (List (Option ℕ))
counterparts_of lines splice news = cut news (counterparts (length lines) splice.keep splice.from (length splice.new))

-- how many chunks an edit touches
abbrev pub touched_as_counterparts : List (List ℕ) → Splice → List ℕ → List ℕ → ℕ
touched_as_counterparts lines splice olds news =
    touched_from (finals_in lines) (finals_in (spliced lines splice)) first_state (cut news (spliced lines splice))
    (map (did_with (cut olds (numbers 0 (length lines))) (cut olds (traces_of lines))) (counterparts_of lines splice news))

-- they are those that it touches by the lengths of chunks, at each edit that takes or puts a line
abbrev pub TouchedByCounterparts : Type 0
TouchedByCounterparts = (lines : List (List ℕ)) (splice : Splice) (olds news : List ℕ) → IsDivision (length lines) olds
    → splice.keep ≤ splice.from → splice.from ≤ length lines → 0 < (splice.from - splice.keep) + length splice.new
    → news ≡ put_at splice.keep (splice.from - splice.keep) (length splice.new) olds
    → touched_of lines splice olds news ≡ touched_as_counterparts lines splice olds news
