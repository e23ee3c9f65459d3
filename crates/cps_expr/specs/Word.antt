-- Words of bits.
use Rattle.std.specs.Prelude.{ℕ, ◌-◌, ◌^◌}

-- the complement of a word of so many bits
abbrev pub complement : ℕ → ℕ → ℕ
complement bits word = 2 ^ bits - 1 - word
