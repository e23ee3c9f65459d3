-- What holds of lists of which two runs have changed places. Our own.
use Rattle.std.specs.Prelude.{◌≡◌, ℕ, ◌+◌, ◌-◌, ◌<◌, ◌≤◌, List, ◌++◌, length, take, drop}
use Rattle.cps_edit.specs.declared.exchange.Exchange.{Exchange}
use Rattle.cps_edit.specs.Exchange.{IsWithin, exchanged, back_of, move}
use Rattle.cps_edit.specs.Numbers.{numbers, picked, exchanged_numbers}

-- ---- lines taken out, and set in again

-- a list without the lines from one number to another, counted from 1
abbrev pub without_run : {X : Type 0} → List X → ℕ → ℕ → List X
without_run xs first last = take (first - 1) xs ++ drop last xs

-- these lines
abbrev pub run_of : {X : Type 0} → List X → ℕ → ℕ → List X
run_of xs first last = drop (first - 1) (take last xs)

-- lines set in after so many others
abbrev pub set_in : {X : Type 0} → List X → ℕ → List X → List X
set_in xs after run = take after xs ++ (run ++ drop after xs)

-- A move is the lines taken out of the list, and set in after the same line as before: where that line stands behind them it has a smaller number by then.
abbrev pub MovesTakeOut : Type 0 → Type 0
MovesTakeOut X = (xs : List X) (first last after : ℕ) → 1 ≤ first → first ≤ last → last ≤ length xs → after ≤ length xs
    → (after < first → exchanged (move first last after) xs ≡ set_in (without_run xs first last) after (run_of xs first last))
    × (last ≤ after → exchanged (move first last after) xs ≡ set_in (without_run xs first last) (after - (last - (first - 1))) (run_of xs first last))

-- ---- an exchange and the one that undoes it

-- it has its runs in the exchanged list, and gives the list back
abbrev pub TurnsBack : Type 0 → Type 0
TurnsBack X = (xs : List X) (e : Exchange) → IsWithin (length xs) e
    → IsWithin (length (exchanged e xs)) (back_of e) × (exchanged (back_of e) (exchanged e xs) ≡ xs)

-- ---- the numbers of items

-- an exchanged list has the items of its numbers, and numbers that follow one another are a run of the list
abbrev pub ExchangesPick : Type 0 → Type 0
ExchangesPick X = (xs : List X) (other : X)
    → ((e : Exchange) → IsWithin (length xs) e → exchanged e xs ≡ picked xs other (exchanged_numbers (length xs) e))
    × ((at n : ℕ) → at + n ≤ length xs → picked xs other (numbers at n) ≡ take n (drop at xs))
