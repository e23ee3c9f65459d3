-- For the code of reading, not part of what a reader believes: parts that stand one behind another in one list, by where each ends.
use Rattle.std.specs.Prelude.{◌≡◌, ℕ, ◌-◌, ◌≤◌, List, [], ◌∷◌, take, drop}

-- parts that begin behind so many items
abbrev pub parts_at : {A : Type 0} → ℕ → List ℕ → List A → List (List A)
parts_at begin [] items = []
parts_at begin (end ∷ ends) items = take (end - begin) (drop begin items) ∷ parts_at end ends items

-- ends that rise from there to the end of a list
abbrev pub RisesTo : ℕ → List ℕ → ℕ → Type 0
RisesTo begin [] size = begin ≡ size
RisesTo begin (end ∷ ends) size = (begin ≤ end) × RisesTo end ends size
