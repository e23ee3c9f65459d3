-- Which lines an edit disturbs, told of each line by itself: by the state in front of it, what the same line did in the old source, and the final values
-- of both sources. The lines may be those of a splice or of a move. Our own.
use Rattle.std.specs.Prelude.{◌≡◌, ℕ, zero, suc, ◌+◌, ◌≤◌, Bool, List, [], ◌∷◌, ◌++◌, length, get_or, take, map, Option, if◌then◌else◌}
use Rattle.cps_state.specs.Course.{Trace}
use Rattle.cps_state.specs.Keys.{State, first_state}
use Rattle.cps_final.specs.Outcome.{Resolved}
use Rattle.cps_edit.specs.declared.exchange.Exchange.{Exchange}
use Rattle.cps_edit.specs.Exchange.{exchanged}
use Rattle.cps_edit.specs.Passes.{state_after}
use Rattle.cps_edit.specs.Splice.{Splice, splice_at, spliced, insertion, deletion}
use Rattle.cps_edit.specs.Disturbed.{Placed, fresh, all_kept, placed, is_disturbed, disturbed_from, is_redone_at, redone_places}

-- how many of the numbers from 0 below a bound pass
abbrev pub count_below : (ℕ → Bool) → ℕ → ℕ
count_below passes zero = 0
count_below passes (suc n) = count_below passes n + (if passes n then 1 else 0)

-- ---- the lines of the new source

abbrev pub line_of : Placed → List ℕ
line_of place = place.line

abbrev pub lines_of : List Placed → List (List ℕ)
lines_of places = map line_of places

-- they are the lines that the edit leaves, be it a splice or a move
abbrev pub PlacesAreTheSource : Type 0
PlacesAreTheSource = (lines : List (List ℕ))
    → ((splice : Splice) → lines_of (placed lines splice) ≡ spliced lines splice)
    × ((e : Exchange) → lines_of (exchanged e (all_kept lines)) ≡ exchanged e lines)

-- a put is the others deleted, and each line inserted behind the one before it
abbrev pub PutsAreOneByOne : Type 0
PutsAreOneByOne = (lines : List (List ℕ)) (keep from : ℕ) → keep ≤ length lines
    → (spliced lines (splice_at keep from []) ≡ spliced lines (deletion (keep + 1) from))
    × ((new : List (List ℕ)) (line : List ℕ)
    → spliced lines (splice_at keep from (new ++ line ∷ [])) ≡ spliced (spliced lines (splice_at keep from new)) (insertion (keep + length new) line))

-- ---- how many are disturbed

-- the state in front of the line that n others stand before
abbrev pub state_before : List Placed → ℕ → State
state_before places n = state_after first_state (take n (lines_of places))

-- what that line did in the old source; None: it is new
abbrev pub did_before : List Placed → ℕ → Option Trace
did_before places n = (get_or places n (fresh [])).old

-- pass one: the lines that are disturbed, each in the state in front of it
abbrev pub OnesAreCounted : Type 0
OnesAreCounted = (places : List Placed)
    → disturbed_from first_state places ≡ count_below (λ n. is_disturbed (did_before places n) (state_before places n)) (length places)

-- pass two: those, and the lines that name something with another final value
abbrev pub TwosAreCounted : Type 0
TwosAreCounted = (was now : Resolved) (places : List Placed)
    → redone_places was now first_state places ≡ count_below (λ n. is_redone_at was now (did_before places n) (state_before places n)) (length places)
