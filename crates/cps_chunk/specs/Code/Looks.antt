-- For the code, not part of what a reader believes: how many lines both passes of an edit compare, by the source and its division before it and what they become.
use Rattle.std.specs.Prelude.{ℕ, ◌+◌, ◌-◌, ◌*◌, ◌≤◌, nat_lt, List, [], ◌∷◌, take, drop, sum, if◌then◌else◌}
use Rattle.cps_state.specs.Course.{Trace}
use Rattle.cps_final.specs.Outcome.{Resolved}
use Rattle.cps_chunk.specs.Recut.{recut}
use Rattle.cps_final.specs.NamedFinals.{names_in}
use Rattle.cps_edit.specs.Passes.{state_after, traces_of}
use Rattle.cps_edit.specs.Splice.{Splice, spliced}
use Rattle.cps_edit.specs.Disturbed.{finals_in}
use Rattle.cps_chunk.specs.declared.sparse.SparseItem.{SparseItem}
use Rattle.cps_chunk.specs.Code.Redo.{is_passed}
use Rattle.cps_chunk.specs.Code.Walk.{looks_over}
use Rattle.cps_chunk.specs.Replayed.{state_behind, replayed_behind}
use Rattle.cps_chunk.specs.Code.Recuts.{Recuts}
use Rattle.cps_chunk.specs.Touched.{touched_of}

-- ---- pass two, chunk by chunk

module _ {X : Type 0} where
  -- of items whose places grow: those in front of a place, and those from it on
  abbrev pub items_before : ℕ → List (SparseItem X) → List (SparseItem X)
  items_before place [] = []
  items_before place (new ∷ news) = if nat_lt new.at place then new ∷ items_before place news else []

  abbrev pub items_from : ℕ → List (SparseItem X) → List (SparseItem X)
  items_from place [] = []
  items_from place (new ∷ news) = if nat_lt new.at place then items_from place news else new ∷ news

-- How many lines of chunks are compared one by one: those of a chunk of which a line does something new, or of whose named final values one differs now.
-- The first line has this place; the lines did that, and some do this now, each at its place.
abbrev pub looks_again : Resolved → Resolved → List ℕ → ℕ → List (SparseItem Trace) → List Trace → ℕ
looks_again was now [] at news traces = 0
looks_again was now (n ∷ lengths) at news traces =
    (if is_passed was now (names_in (take n traces)) (items_before (at + n) news) then 0 else n)
    + looks_again was now lengths (at + n) (items_from (at + n) news) (drop n traces)

-- ---- an edit

-- pass one: the first lines behind the new ones, which a cut chunk leaves loose, and those of the chunks behind them
abbrev pub first_looks : List (List ℕ) → Splice → ℕ → List ℕ → ℕ
first_looks lines splice loose behind =
    loose
    + looks_over (state_after (state_behind lines splice) (take loose (drop splice.from lines))) behind (drop loose (drop splice.from lines))
    (drop loose (drop splice.from (traces_of lines)))

-- pass two: the lines of the chunks in front, those that cut chunks keep in front of the new lines and behind them, and those of the chunks behind
abbrev pub second_looks : List (List ℕ) → Splice → List ℕ → ℕ → ℕ → List ℕ → ℕ
second_looks lines splice front kept loose behind =
    let was = finals_in lines in
    let now = finals_in (spliced lines splice) in
    let at = splice.from + loose in
    (looks_again was now front 0 [] (traces_of lines) + kept)
    + (loose + looks_again was now behind at (items_from at (replayed_behind lines splice)) (drop at (traces_of lines)))

-- both together: at most 128 lines for each chunk that the edit touches
abbrev pub LooksLaw : Type 0
LooksLaw = (lines : List (List ℕ)) (splice : Splice) (start end : ℕ) (ns olds : List ℕ) → Recuts lines splice start end ns olds
    → first_looks lines splice (sum (take end olds) - splice.from) (drop end olds)
    + second_looks lines splice (take start olds) (splice.keep - sum (take start olds)) (sum (take end olds) - splice.from) (drop end olds)
    ≤ 128 * touched_of lines splice olds (recut start end ns olds)
