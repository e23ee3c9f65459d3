-- The runs of a text: each is as long as its characters pass a test, and every other character stands by itself.
use Rattle.std.specs.Prelude.{ℕ, suc, Bool, not, ◌&&◌, List, [], ◌∷◌, slice_index, if◌then◌else◌}
use Rattle.std.specs.List.{position_or_len}

-- a character in front of runs belongs to the first of them if both pass
abbrev pub joined : (ℕ → Bool) → ℕ → List (List ℕ) → List (List ℕ)
joined passes character [] = (character ∷ []) ∷ []
joined passes character (run ∷ runs) =
    if passes character && passes (slice_index run 0) then (character ∷ run) ∷ runs else (character ∷ []) ∷ run ∷ runs

abbrev pub runs : (ℕ → Bool) → List ℕ → List (List ℕ)
runs passes [] = []
runs passes (character ∷ text) = joined passes character (runs passes text)

-- how many characters the first run has
abbrev pub run_len : (ℕ → Bool) → List ℕ → ℕ
run_len passes [] = 0
run_len passes (character ∷ text) = if passes character then suc (position_or_len (λ c. not (passes c)) text) else 1
