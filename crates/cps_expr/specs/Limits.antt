-- The greatest magnitudes of values; both are our profile's.
use Rattle.std.specs.Prelude.{ℕ, ◌-◌, ◌^◌}

-- of an element of an expression, and of a plain value: the greatest that 60 bits in ones' complement hold
abbrev pub greatest_plain : ℕ
greatest_plain = 2 ^ 59 - 1

-- of an offset in a block
abbrev pub greatest_offset : ℕ
greatest_offset = 2 ^ 58
