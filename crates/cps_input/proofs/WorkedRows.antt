-- Worked rows. What each gives was worked out by hand.
use Rattle.std.proofs.Common.{ℕ, List, [], ◌∷◌, ◌++◌, refl, codes, arith}
use Rattle.std.specs.Prelude.{replicate}
use Rattle.cps_input.specs.declared.input_fault.InputFault.TheVariants.{BadCharacter, LineTooLong}
use Rattle.cps_input.specs.Sources.{IsFirstBad, IsWrong}

-- so many asterisks
abbrev stars : ℕ → List ℕ
stars count = replicate count 42

-- ---- the column of the first byte that no line may have

-- a tab in column 1
tab-first : IsFirstBad (9 ∷ codes "X") 1
tab-first = record { front = []; byte = 9; back = codes "X"; whole = refl; before = refl; bad = refl; place = refl }

-- a tab behind the operation, in column 14, and one behind it
two-tabs : IsFirstBad (codes "          SX1" ++ 9 ∷ codes "1" ++ 9 ∷ []) 14
two-tabs = record { front = codes "          SX1"; byte = 9; back = codes "1" ++ 9 ∷ []; whole = refl; before = refl; bad = refl; place = refl }

-- the second byte of a character of two is behind the first, which stands in column 2
two-bytes : IsFirstBad (codes "X" ++ 0xC3 ∷ 0xA9 ∷ []) 2
two-bytes = record { front = codes "X"; byte = 0xC3; back = 0xA9 ∷ []; whole = refl; before = refl; bad = refl; place = refl }

-- a tilde in column 90
tilde-last : IsFirstBad (stars 89 ++ codes "~") 90
tilde-last = record { front = stars 89; byte = 126; back = []; whole = refl; before = refl; bad = refl; place = refl }

-- ---- what is wrong with a line

-- line 2 has one in its last column
bad-last : IsWrong 2 (stars 89 ++ codes "~") (BadCharacter 2 90)
bad-last = (refl, record { short = omega arith; bad = refl }, tilde-last)

-- a line of 91 bytes is too long, though it has one
long : IsWrong 2 (codes "~" ++ stars 90) (LineTooLong 2)
long = (refl, omega arith)

long-alone : (column : ℕ) → IsWrong 2 (codes "~" ++ stars 90) (BadCharacter 2 column) → ⊥
long-alone column (_, has, _) = let short = has.short in omega arith
