-- Operands that are read together: None where one of them, or their number, doesn't fit.
use Rattle.std.specs.Prelude.{ℕ, List, [], ◌∷◌, Option, None, Some, option_map, option_and_then}

-- two things, if paired can be read
abbrev pub paired : {T U : Type 0} → Option T → Option U → Option (T × U)
paired first second = option_and_then (λ x. option_map (λ y. (x, y)) second) first

-- a list with one thing more in front, if both can be read
abbrev pub with_first : {T : Type 0} → Option T → Option (List T) → Option (List T)
with_first first rest = option_and_then (λ x. option_map (λ xs. x ∷ xs) rest) first

-- what all texts write, if each can be read
abbrev pub all_some : {T : Type 0} → (List ℕ → Option T) → List (List ℕ) → Option (List T)
all_some read [] = Some []
all_some read (text ∷ texts) = with_first (read text) (all_some read texts)

abbrev pub one_or_more : {T : Type 0} → (List ℕ → Option T) → List (List ℕ) → Option (List T)
one_or_more read [] = None
one_or_more read (text ∷ texts) = all_some read (text ∷ texts)

-- the first operand; more may follow
abbrev pub first_one : {T : Type 0} → (List ℕ → Option T) → List (List ℕ) → Option T
first_one read [] = None
first_one read (text ∷ texts) = read text

-- the only operand
abbrev pub only_one : {T : Type 0} → (List ℕ → Option T) → List (List ℕ) → Option T
only_one read [] = None
only_one read (text ∷ []) = read text
only_one read (text ∷ second ∷ texts) = None

-- no operand, or only one
abbrev pub at_most_one : {T : Type 0} → (List ℕ → Option T) → List (List ℕ) → Option (Option T)
at_most_one read [] = Some None
at_most_one read (text ∷ []) = option_map Some (read text)
at_most_one read (text ∷ second ∷ texts) = None
