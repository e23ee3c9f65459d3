-- For the loops over what is read one after another, not part of what a reader believes.
use Rattle.std.specs.Prelude.{◌≡◌, ◌++◌, List, [], ◌∷◌, Option, None, Some, option_map, is_some}

-- the reading so far, what is left to read, and the whole
abbrev pub Continues : {T : Type 0} → Option (List T) → Option (List T) → Option (List T) → Type 0
Continues (Some kept) left whole = option_map (λ more. kept ++ more) left ≡ whole
Continues None left whole = is_some left ≡ is_some whole

-- an item is added to what is kept, or nothing is kept any more
abbrev pub IsAdded : {T : Type 0} → Option (List T) → T → Option (List T) → Type 0
IsAdded (Some before) item (Some after) = after ≡ before ++ item ∷ []
IsAdded None item (Some after) = ⊥
IsAdded (Some before) item None = Unit {0}
IsAdded None item None = Unit {0}
