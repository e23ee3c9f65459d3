-- Numbers in octal.
use Prim.Native.Char.{code}
use Rattle.std.specs.Prelude.{ℕ, zero, suc, ◌+◌, ◌/◌, ◌%◌, List, [], ◌∷◌, ◌++◌}

-- the low octal digits of a number, so many
unfoldable pub octal : ℕ → ℕ → List ℕ
octal zero number = []
octal (suc digits) number = octal digits (number / 8) ++ (code "0" + number % 8) ∷ []
