-- For the code, not part of what a reader believes: how many lines both passes of a move compare, by the source and its division before it.
use Rattle.std.specs.Prelude.{ℕ, ◌+◌, ◌*◌, ◌<◌, ◌≤◌, nat_lt, Bool, not, ◌&&◌, ◌||◌, List, [], ◌∷◌, length, take, drop, get_or, if◌then◌else◌}
use Rattle.cps_state.specs.Course.{Trace}
use Rattle.cps_state.specs.Keys.{State, first_state}
use Rattle.cps_chunk.specs.Division.{IsDivision}
use Rattle.cps_chunk.specs.Exchange.{exchanged_at}
use Rattle.cps_edit.specs.declared.exchange.Exchange.{Exchange}
use Rattle.cps_edit.specs.Exchange.{exchanged}
use Rattle.cps_final.specs.Holds.{holds}
use Rattle.cps_final.specs.Run.{run_of}
use Rattle.cps_edit.specs.Passes.{traces_of}
use Rattle.cps_edit.specs.Disturbed.{finals_in}
use Rattle.cps_chunk.specs.Code.Moved.{fronts_moved, replayed_moved}
use Rattle.cps_chunk.specs.Code.Looks.{looks_again}
use Rattle.cps_chunk.specs.Touched.{touched_of_exchange}

-- a place stands among the lines of a chunk of so many lines that begins at another place: there are lines of it on both sides
abbrev pub is_among : ℕ → ℕ → ℕ → Bool
is_among place at n = nat_lt at place && nat_lt place (at + n)

-- a move cuts such a chunk
abbrev pub is_cut_by : Exchange → ℕ → ℕ → Bool
is_cut_by e at n = is_among e.keep at n || (is_among e.mid at n || is_among e.from at n)

-- How many lines pass one compares of chunks of these lengths, the first of which begins at a place: those of the chunks that the move cuts, and of
-- those of whose asks one has another answer now. That stands in front of each line; the lines did this.
abbrev pub looks_moved : Exchange → List ℕ → ℕ → (ℕ → State) → List Trace → ℕ
looks_moved e [] at stands traces = 0
looks_moved e (n ∷ lengths) at stands traces =
    (if not (is_cut_by e at n) && holds (run_of (take n traces)).asks (stands at) then 0 else n) + looks_moved e lengths (at + n) stands (drop n traces)

-- in front of the line that had a place
abbrev pub stands_moved : List (List ℕ) → Exchange → ℕ → State
stands_moved lines e at = get_or (fronts_moved lines e) at first_state

abbrev pub first_looks_moved : List (List ℕ) → Exchange → List ℕ → ℕ
first_looks_moved lines e olds = looks_moved e olds 0 (stands_moved lines e) (traces_of lines)

-- pass two
abbrev pub second_looks_moved : List (List ℕ) → Exchange → List ℕ → ℕ
second_looks_moved lines e olds = looks_again (finals_in lines) (finals_in (exchanged e lines)) olds 0 (replayed_moved lines e) (traces_of lines)

-- both together: at most 128 lines for each chunk that the move touches
abbrev pub MoveLooksLaw : Type 0
MoveLooksLaw = (lines : List (List ℕ)) (e : Exchange) (olds : List ℕ) → IsDivision (length lines) olds → e.keep < e.mid → e.mid < e.from → e.from ≤ length lines
    → first_looks_moved lines e olds + second_looks_moved lines e olds ≤ 128 * touched_of_exchange lines e olds (exchanged_at e olds)
