-- For the code of maps by names, not part of what a reader believes: names as numbers.
use Rattle.std.specs.Prelude.{◌≡◌, ℕ, ◌<◌, length, get_or}
use Rattle.std.specs.Int.{w64, from_le_bytes}
use Rattle.std.specs.Ordering.{nat_cmp}
use Rattle.std.specs.declared.cmp.Ordering.{Ordering}
use Rattle.cps_text.specs.declared.name.Name.{Name}
use Rattle.cps_text.specs.declared.name_number.NameNumber.{NameNumber}

-- the number that a name's bytes write, the first one the lowest
abbrev pub name_number : Name → ℕ
name_number name = from_le_bytes w64 name.bytes

abbrev pub number_of : Name → NameNumber
number_of name = record { number = name_number name }

abbrev pub number_order : NameNumber → NameNumber → Ordering
number_order a b = nat_cmp a.number b.number

-- a name has eight bytes; such names are one where their numbers are
abbrev pub HasEightBytes : Name → Type 0
HasEightBytes name = (length name.bytes ≡ 8) × ((i : ℕ) → get_or name.bytes i 0 < 256)
