-- Numbers in digits.
use Rattle.std.specs.Prelude.{ℕ, ◌+◌, ◌-◌, ◌*◌, List, codes, fold, slice_index}

abbrev pub zero_digit : ℕ
zero_digit = slice_index (codes "0") 0

-- a number with one digit more
abbrev pub with_digit : ℕ → ℕ → ℕ → ℕ
with_digit base number digit = number * base + (digit - zero_digit)

-- the number that digits make to a base
abbrev pub digits_number : ℕ → List ℕ → ℕ
digits_number base digits = fold (with_digit base) 0 digits
