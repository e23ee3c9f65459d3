-- Characters of a text.
use Prim.Native.Char.{code}
use Rattle.std.specs.Prelude.{ℕ, ◌+◌, ◌-◌, Bool, List, map, slice_index, codes, not, ◌&&◌, ◌==◌, nat_le, nat_lt, if◌then◌else◌}
use Rattle.std.specs.List.{list_any}

-- whether a character is one of a text's
abbrev pub among : List ℕ → ℕ → Bool
among text character = list_any (λ c. character == c) text

-- whether a text begins with one of some characters
abbrev pub begins_with : List ℕ → List ℕ → Bool
begins_with characters text = among characters (slice_index text 0)

abbrev pub is_blank : ℕ → Bool
is_blank = among (codes " ")

abbrev pub is_filled : ℕ → Bool
is_filled character = not (is_blank character)

-- a digit of numbers to a base
abbrev pub is_digit : ℕ → ℕ → Bool
is_digit base character = nat_le (code "0") character && nat_lt character (code "0" + base)

-- a lower-case letter stands for its capital
abbrev pub is_lower : ℕ → Bool
is_lower character = nat_le (code "a") character && nat_le character (code "z")

abbrev pub capital : ℕ → ℕ
capital character = if is_lower character then character - (code "a" - code "A") else character

abbrev pub capitals : List ℕ → List ℕ
capitals text = map capital text

abbrev pub is_letter : ℕ → Bool
is_letter character = nat_le (code "A") character && nat_le character (code "Z")
