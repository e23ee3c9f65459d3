-- Numbers in hexadecimal. Our own.
use Rattle.std.specs.Prelude.{ℕ, zero, suc, ◌/◌, ◌%◌, List, [], ◌∷◌, ◌++◌, codes, slice_index}

abbrev pub hex_digit : ℕ → ℕ
hex_digit digit = slice_index (codes "0123456789ABCDEF") digit

-- the low hexadecimal digits of a number, so many
unfoldable pub hex : ℕ → ℕ → List ℕ
hex zero number = []
hex (suc digits) number = hex digits (number / 16) ++ hex_digit (number % 16) ∷ []
