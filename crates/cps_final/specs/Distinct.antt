-- The elements of a list, each once, in the order of their first places. Our own.
use Rattle.std.specs.Prelude.{Bool, not, List, [], ◌∷◌, filter}

-- what equals the first element is left out after it
abbrev pub distinct : {T : Type 0} → (T → T → Bool) → List T → List T
distinct eq [] = []
distinct eq (x ∷ xs) = x ∷ filter (λ y. not (eq x y)) (distinct eq xs)
