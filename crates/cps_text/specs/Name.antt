-- Names: symbols of the code.
use Prim.Native.Char.{code}
use Rattle.std.specs.Prelude.{ℕ, ◌+◌, ◌/◌, ◌%◌, Bool, ◌==◌, List, [], ◌∷◌, Option, None, Some, codes, slice_index, if◌then◌else◌}
use Rattle.std.specs.Cmp.Lexicographic.{pointwise}
use Rattle.std.specs.List.{before_first}
use Rattle.cps_text.specs.declared.name.Name.{Name}
use Rattle.cps_text.specs.Symbol.{is_name, padded, is_padding}
use Rattle.cps_text.specs.Text.{among, capitals}

-- the symbol that a text writes
abbrev pub name_of : List ℕ → Option Name
name_of text = if is_name (capitals text) then Some (record { bytes = padded (capitals text) }) else None

-- two names are one
abbrev pub is_one : Name → Name → Bool
is_one a b = pointwise ◌==◌ a.bytes b.bytes

-- the characters of a name
abbrev pub name_text : Name → List ℕ
name_text name = before_first is_padding name.bytes

-- ---- generated names

-- the decimal digit of a number at a place
abbrev pub digit_at : ℕ → ℕ → ℕ
digit_at place number = code "0" + number / place % 10

-- `~` and the seven digits of a number
abbrev pub generated_text : ℕ → List ℕ
generated_text number =
    code "~" ∷ digit_at 1000000 number ∷ digit_at 100000 number ∷ digit_at 10000 number ∷ digit_at 1000 number
    ∷ digit_at 100 number ∷ digit_at 10 number ∷ digit_at 1 number ∷ []

abbrev pub generated_name : ℕ → Name
generated_name number = record { bytes = generated_text number }

-- a name that was generated begins with `~`, and no other does
abbrev pub was_generated : Name → Bool
was_generated name = among (codes "~") (slice_index name.bytes 0)
