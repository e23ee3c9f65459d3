-- Items by the numbers of their places, from 0 on. Our own.
use Rattle.std.specs.Prelude.{ℕ, zero, suc, ◌+◌, ◌-◌, List, [], ◌∷◌, ◌++◌, map, get_or}
use Rattle.cps_edit.specs.declared.exchange.Exchange.{Exchange}

-- so many numbers from one on
abbrev pub numbers : ℕ → ℕ → List ℕ
numbers at zero = []
numbers at (suc n) = at ∷ numbers (at + 1) n

-- the items of these numbers
abbrev pub picked : {X : Type 0} → List X → X → List ℕ → List X
picked xs other ks = map (λ k. get_or xs k other) ks

-- the numbers that the items of an exchanged list had, one run after another
abbrev pub exchanged_numbers : ℕ → Exchange → List ℕ
exchanged_numbers count e =
    numbers 0 e.keep ++ (numbers e.mid (e.from - e.mid) ++ (numbers e.keep (e.mid - e.keep) ++ (numbers e.from (count - e.from) ++ [])))
